-- A digit more, or the end of the number. For the loop of `seconds`.
use Rattle.std.proofs.Common.{◌+◌, drop, ap, sym, ◌∙◌}
use Rattle.report_spec.specs.Facts.{seconds_from}
use Rattle.region_report.proofs.DigitRuns.{digit_more, no_digit, digits_past}
use Rattle.region_report.proofs.facts.seconds.Goals as goal

pub digits-preserved : goal.digits-preserved
digits-preserved c = (
  c.with_digit-seconds.ensures.few,
  c.digits.invariant.1
      ∙ digit_more c.args.bytes.now c.digits.at c.digits.seconds c.digits-test.true
      (sym c.is_digit.ensures ∙ c.if-not-is_digit.false)
      ∙ ap (λ n. seconds_from n (drop (c.digits.at + 1) c.args.bytes.now)) (sym c.with_digit-seconds.ensures.digit),
)

pub returns-then-not-is_digit : goal.returns-then-not-is_digit
returns-then-not-is_digit c =
    sym (c.digits.invariant.1
    ∙ no_digit c.args.bytes.now c.digits.at c.digits.seconds c.digits-test.true
    (sym c.is_digit.ensures ∙ c.if-not-is_digit.true))

pub returns : goal.returns
returns c =
    sym (c.digits.invariant.1 ∙ digits_past c.args.bytes.now c.digits.at c.digits.seconds c.digits-test.false)
