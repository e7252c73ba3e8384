-- The length of a dump's content, of the console's and of pmsg's is that of the listed record. For
-- `content_len`.
use Rattle.std.proofs.Common.{◌∙◌, sym, ap, length, List}
use Rattle.std.specs.List.{find}
use Rattle.std.specs.Option.{option_map}
use Rattle.blk_spec.specs.declared.BlkName.{BlkName}
use Rattle.blk_spec.specs.Reading.{BlkDump}
use Rattle.blk_spec.specs.Names.{is_name, dump_name, dump_content}
use Rattle.blk_spec.specs.States.{BlkState, content_of}
use Rattle.zone_blk.proofs.blk.Blk.content_len.Goals as goal

pub returns-in-Dump : goal.returns-in-Dump
unfolding content_of
returns-in-Dump c =
    let b = c.args.self.now in
    c.named_len.ensures
    ∙ ap (λ (ds : List BlkDump). option_map length (option_map dump_content
    (find (λ (d : BlkDump). is_name c.args.name (dump_name d)) ds)))
    (c.deref.ensures.value ∙ ap (λ (x : BlkState). x.dumps) c.self.view_is)
    ∙ ap (λ (n : BlkName). option_map length (option_map dump_content
    (find (λ (d : BlkDump). is_name n (dump_name d)) b.dumps))) c.in-Dump.is
    ∙ ap (λ (n : BlkName). option_map length (content_of b n)) (sym c.in-Dump.is)

pub returns-in-Console : goal.returns-in-Console
unfolding content_of
returns-in-Console c =
    c.saved_len.ensures ∙ ap (λ (b : BlkState). option_map length b.console.saved) c.self.view_is
    ∙ ap (λ (n : BlkName). option_map length (content_of c.args.self.now n)) (sym c.in-Console.is)

pub returns-in-Pmsg : goal.returns-in-Pmsg
unfolding content_of
returns-in-Pmsg c =
    c.saved_len-in-Pmsg.ensures ∙ ap (λ (b : BlkState). option_map length b.pmsg.saved) c.self.view_is
    ∙ ap (λ (n : BlkName). option_map length (content_of c.args.self.now n)) (sym c.in-Pmsg.is)
