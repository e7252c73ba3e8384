-- The row `faults_in_order`: parameters with two faults. The checker computes it.
use Rattle.std.proofs.Common.{refl}
use Rattle.zone_examples.proofs.Unfoldings.{computing_all}
use Rattle.zone_examples.proofs.layouts.faults_in_order.Goals as goal

pub returns : goal.returns
unfolding computing_all
returns c = (refl, refl, refl, refl, refl, refl, refl, refl)
