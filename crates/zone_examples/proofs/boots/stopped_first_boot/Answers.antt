-- The row `stopped_first_boot`: a boot cut after the signature of a zone of zeros. The checker
-- computes it.
use Rattle.std.proofs.Common.{refl}
use Rattle.zone_examples.proofs.Unfoldings.{computing_all}
use Rattle.zone_examples.proofs.boots.stopped_first_boot.Goals as goal

pub returns : goal.returns
unfolding computing_all
returns c = refl
