-- The row `no_such_zone`: zones that the layout lacks, and appends to dump zones. The checker
-- computes it.
use Rattle.std.proofs.Common.{refl}
use Rattle.zone_examples.proofs.Unfoldings.{computing_all}
use Rattle.zone_examples.proofs.refusals.no_such_zone.Goals as goal

pub returns : goal.returns
unfolding computing_all
returns c = (refl, refl)
