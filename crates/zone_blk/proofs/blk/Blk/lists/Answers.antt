-- `lists` answers whether a dump, the console or pmsg is among the listed records.
use Rattle.std.proofs.Common.{◌∙◌, sym, ap, List, is_some}
use Rattle.std.specs.List.{find}
use Rattle.blk_spec.specs.declared.BlkName.{BlkName}
use Rattle.blk_spec.specs.Reading.{BlkDump}
use Rattle.blk_spec.specs.Names.{is_name, dump_name}
use Rattle.blk_spec.specs.States.{BlkState, is_listed}
use Rattle.blk_laws.proofs.Listings.{listed-console, listed-pmsg}
use Rattle.zone_blk.proofs.Contents.{listed-dump, some-copied}
use Rattle.zone_blk.proofs.blk.Blk.lists.Goals as goal

pub returns-in-Dump-clause-listed : goal.returns-in-Dump-clause-listed
returns-in-Dump-clause-listed c =
    let b = c.args.self.now in
    c.is_some.ensures ∙ sym (some-copied c.find_dump.result) ∙ ap is_some c.find_dump.ensures
    ∙ ap (λ (ds : List BlkDump). is_some (find (λ (d : BlkDump). is_name c.args.name (dump_name d)) ds))
    (c.deref.ensures.value ∙ ap (λ (x : BlkState). x.dumps) c.self.view_is)
    ∙ ap (λ (n : BlkName). is_some (find (λ (d : BlkDump). is_name n (dump_name d)) b.dumps)) c.in-Dump.is
    ∙ sym (listed-dump b c.in-Dump.index c.in-Dump.packed) ∙ ap (λ (n : BlkName). is_listed b n) (sym c.in-Dump.is)

pub returns-in-Console-clause-listed : goal.returns-in-Console-clause-listed
returns-in-Console-clause-listed c =
    c.is_some-in-Console.ensures ∙ ap (λ (b : BlkState). is_some b.console.saved) c.self.view_is
    ∙ sym (listed-console c.args.self.now) ∙ ap (λ (n : BlkName). is_listed c.args.self.now n) (sym c.in-Console.is)

pub returns-in-Pmsg-clause-listed : goal.returns-in-Pmsg-clause-listed
returns-in-Pmsg-clause-listed c =
    c.is_some-in-Pmsg.ensures ∙ ap (λ (b : BlkState). is_some b.pmsg.saved) c.self.view_is
    ∙ sym (listed-pmsg c.args.self.now) ∙ ap (λ (n : BlkName). is_listed c.args.self.now n) (sym c.in-Pmsg.is)
