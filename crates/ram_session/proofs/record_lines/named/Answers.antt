-- A text names a listed record where it is a name's text and a record of that name has a length
use Rattle.std.proofs.Common.{◌∙◌}
use Rattle.prz_read.specs.Saving.{saved}
use Rattle.ram_session.proofs.NamedRecord.{all-small, nothing-named, not-listed, is-listed}
use Rattle.ram_session.proofs.record_lines.named.Goals as goal

pub returns-in_err-name : goal.returns-in_err-name
returns-in_err-name c = c.from_residual.ensures ∙ nothing-named (saved c.args.logs.now) c.args.text.now
    (all-small c.args.logs.now c.len-numbered.ensures.numbered) c.in_err-name.ensures.name

pub returns-in_err-length : goal.returns-in_err-length
returns-in_err-length c = c.from_residual-in_err-length.ensures ∙ not-listed (saved c.args.logs.now) c.args.text.now
    c.in_ok-name.name (all-small c.args.logs.now c.len-numbered.ensures.numbered) c.in_ok-name.ensures.name
    c.in_ok-name.ensures.only c.in_err-length.ensures

pub returns : goal.returns
returns c = is-listed (saved c.args.logs.now) c.args.text.now c.in_ok-name.name c.in_ok-length.field-0
    (all-small c.args.logs.now c.len-numbered.ensures.numbered) c.in_ok-name.ensures.name
    c.in_ok-name.ensures.only c.in_ok-length.ensures
