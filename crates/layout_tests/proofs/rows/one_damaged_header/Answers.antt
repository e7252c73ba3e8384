-- The row of one damaged header computes.
use Rattle.std.proofs.Common.{refl}
use Rattle.layout_tests.proofs.Unfoldings.{computing}
use Rattle.layout_tests.proofs.rows.one_damaged_header.Goals as goal

pub returns : goal.returns
unfolding computing
returns c = (refl, refl, refl, refl, refl)
