-- The row of the two orders of bytes computes.
use Rattle.std.proofs.Common.{refl}
use Rattle.layout_tests.proofs.Unfoldings.{computing}
use Rattle.layout_tests.proofs.rows.two_byte_orders.Goals as goal

pub returns : goal.returns
unfolding computing
returns c = (refl, refl, refl, refl, refl, refl, refl, refl, refl)
