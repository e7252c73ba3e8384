-- The content of a dump, the console and pmsg is that of the first listed record of the name. For
-- `content`.
use Rattle.std.proofs.Common.{◌∙◌, sym, ap, subst, List, ℕ, Option}
use Rattle.std.specs.List.{find}
use Rattle.std.specs.Option.{option_map}
use Rattle.blk_spec.specs.declared.BlkName.{BlkName}
use Rattle.blk_spec.specs.Reading.{BlkDump}
use Rattle.blk_spec.specs.Names.{is_name, dump_name, dump_content}
use Rattle.blk_spec.specs.States.{BlkState, content_of}
use Rattle.zone_blk.specs.Answering.{IsContent}
use Rattle.zone_blk.proofs.blk.Blk.content.Goals as goal

pub returns-in-Dump : goal.returns-in-Dump
unfolding content_of
returns-in-Dump c =
    let b = c.args.self.now in
    subst (λ (o : Option (List ℕ)). IsContent c.named_content.result o)
    (ap (λ (ds : List BlkDump). option_map dump_content (find (λ (d : BlkDump). is_name c.args.name (dump_name d))
    ds)) (c.deref.ensures.value ∙ ap (λ (x : BlkState). x.dumps) c.self.view_is)
    ∙ ap (λ (n : BlkName). option_map dump_content (find (λ (d : BlkDump). is_name n (dump_name d)) b.dumps))
    c.in-Dump.is
    ∙ ap (λ (n : BlkName). content_of b n) (sym c.in-Dump.is))
    c.named_content.ensures

pub returns-in-Console : goal.returns-in-Console
unfolding content_of
returns-in-Console c =
    subst (λ (o : Option (List ℕ)). IsContent c.saved_content.result o)
    (ap (λ (b : BlkState). b.console.saved) c.self.view_is
    ∙ ap (λ (n : BlkName). content_of c.args.self.now n) (sym c.in-Console.is)) c.saved_content.ensures

pub returns-in-Pmsg : goal.returns-in-Pmsg
unfolding content_of
returns-in-Pmsg c =
    subst (λ (o : Option (List ℕ)). IsContent c.saved_content-in-Pmsg.result o)
    (ap (λ (b : BlkState). b.pmsg.saved) c.self.view_is ∙ ap (λ (n : BlkName). content_of c.args.self.now n)
    (sym c.in-Pmsg.is)) c.saved_content-in-Pmsg.ensures
