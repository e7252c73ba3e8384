-- The row `unsigned_as_told`: zones without signature, or with a size above the capacity, that
-- were told nothing. The checker computes it.
use Rattle.std.proofs.Common.{refl}
use Rattle.zone_examples.proofs.Unfoldings.{computing_all}
use Rattle.zone_examples.proofs.boots.unsigned_as_told.Goals as goal

pub returns : goal.returns
unfolding computing_all
returns c = (refl, refl)
