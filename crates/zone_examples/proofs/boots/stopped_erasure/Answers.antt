-- The row `stopped_erasure`: a boot cut within the erasure of a console that was found. The
-- checker computes it.
use Rattle.std.proofs.Common.{refl}
use Rattle.zone_examples.proofs.Unfoldings.{computing_all}
use Rattle.zone_examples.proofs.boots.stopped_erasure.Goals as goal

pub returns : goal.returns
unfolding computing_all
returns c = refl
