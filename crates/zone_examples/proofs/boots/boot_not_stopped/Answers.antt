-- The row `boot_not_stopped`: a boot with fewer stores than its limit is whole. The checker
-- computes it.
use Rattle.std.proofs.Common.{refl}
use Rattle.zone_examples.proofs.Unfoldings.{computing_all}
use Rattle.zone_examples.proofs.boots.boot_not_stopped.Goals as goal

pub returns : goal.returns
unfolding computing_all
returns c = refl
