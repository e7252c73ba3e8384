-- A text that is no decimal, has a leading zero or is too large is no number; any other is. For
-- `number_below`.
use Rattle.std.proofs.Common.{sym, ◌∙◌, arith}
use Rattle.std.proofs.lemmas.Slice.Eq.{bytes_eq-Decides}
use Rattle.script.proofs.Numbers.{number_below-no_decimal, number_below-decimal, number_below-other}
use Rattle.script.proofs.fields.number_below.Goals as goal

pub returns-in_err-number-clause-value : goal.returns-in_err-number-clause-value
returns-in_err-number-clause-value c =
    c.from_residual.ensures ∙ sym (number_below-no_decimal c.args.limit c.args.text.now c.requires
    c.in_err-number.ensures)

pub returns-then-has_no_leading_zero-clause-value : goal.returns-then-has_no_leading_zero-clause-value
returns-then-has_no_leading_zero-clause-value c =
    let same = (bytes_eq-Decides c.as_bytes.result.now c.args.text.now).0
    (sym c.eq-has_no_leading_zero.ensures ∙ c.if-has_no_leading_zero.true) in
    let below = c.if-number-limit.true in
    let top = c.requires in
    sym (number_below-decimal c.args.limit c.in_ok-number.number c.args.text.now below (omega (arith, below, top))
    (sym same ∙ c.as_bytes.ensures.value ∙ c.format.ensures.text))

pub returns-else-number-limit-clause-value : goal.returns-else-number-limit-clause-value
returns-else-number-limit-clause-value c =
    sym (number_below-other c.args.limit c.in_ok-number.number c.args.text.now c.as_bytes.result.now
    c.eq-has_no_leading_zero.result c.requires
    c.in_ok-number.ensures c.eq-has_no_leading_zero.ensures (c.as_bytes.ensures.value ∙ c.format.ensures.text)
    c.else-number-limit.either)
