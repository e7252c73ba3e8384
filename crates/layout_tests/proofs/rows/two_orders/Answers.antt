-- The row of the two orders computes.
use Rattle.std.proofs.Common.{refl}
use Rattle.layout_tests.proofs.Unfoldings.{computing}
use Rattle.layout_tests.proofs.rows.two_orders.Goals as goal

pub returns : goal.returns
unfolding computing
returns c = (refl, refl, refl, refl, refl)
