-- The row `stopped_within_second_zone`: a boot cut within its second zone. The checker computes
-- it.
use Rattle.std.proofs.Common.{refl}
use Rattle.zone_examples.proofs.Unfoldings.{computing_all}
use Rattle.zone_examples.proofs.boots.stopped_within_second_zone.Goals as goal

pub returns : goal.returns
unfolding computing_all
returns c = refl
