-- The row `worked_faults`: parameters without a layout. The checker computes it.
use Rattle.std.proofs.Common.{refl}
use Rattle.zone_examples.proofs.Unfoldings.{computing_all}
use Rattle.zone_examples.proofs.layouts.worked_faults.Goals as goal

pub returns : goal.returns
unfolding computing_all
returns c = (refl, refl, refl)
