-- A byte more, or the end of the stamp. For the loop of `stamp_number`.
use Rattle.std.proofs.Common.{◌+◌, drop, ap, sym, ◌∙◌}
use Rattle.report_spec.specs.Mending.{digits_from}
use Rattle.region_report.proofs.SameLines.{digits-more, digits-past}
use Rattle.region_report.proofs.same_lines.stamp_number.Goals as goal

pub digits-preserved : goal.digits-preserved
digits-preserved c = (
  c.number_and-number.ensures.few,
  c.digits.invariant.1
      ∙ digits-more c.args.stamp.now c.digits.at c.digits.number c.digits-test.true
      ∙ ap (λ n. digits_from n (drop (c.digits.at + 1) c.args.stamp.now)) (sym c.number_and-number.ensures.digit),
)

pub returns : goal.returns
returns c =
    sym (c.digits.invariant.1 ∙ digits-past c.args.stamp.now c.digits.at c.digits.number c.digits-test.false)
