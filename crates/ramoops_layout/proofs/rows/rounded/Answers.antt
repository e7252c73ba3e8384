-- 0 is rounded to 0, any other size to the power of two of its logarithm. For `rounded`.
use Rattle.std.proofs.Common.{◌∙◌, sym, ap}
use Rattle.std.proofs.lemmas.Nat.{one_shl}
use Rattle.zone_spec.specs.Layout.{rounded}
use Rattle.ramoops_layout.proofs.PowersOfTwo.{rounded_zero, rounded_power}
use Rattle.ramoops_layout.proofs.rows.rounded.Goals as goal

pub returns-then-size-eq0 : goal.returns-then-size-eq0
returns-then-size-eq0 c = sym (ap rounded c.if-size-eq0.true ∙ rounded_zero)

pub returns-else-size-eq0 : goal.returns-else-size-eq0
returns-else-size-eq0 c = one_shl c.ilog2.result 64 c.ilog2.ensures.bound
    ∙ sym (rounded_power c.ilog2.result c.args.size c.ilog2.ensures.bound c.ilog2.ensures.power_le
    c.ilog2.ensures.next_power_gt)
