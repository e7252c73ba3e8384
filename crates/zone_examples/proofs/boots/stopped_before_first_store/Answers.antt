-- The row `stopped_before_first_store`: a boot cut before its first store leaves what was told.
-- The checker computes it.
use Rattle.std.proofs.Common.{refl}
use Rattle.zone_examples.proofs.Unfoldings.{computing_all}
use Rattle.zone_examples.proofs.boots.stopped_before_first_store.Goals as goal

pub returns : goal.returns
unfolding computing_all
returns c = refl
