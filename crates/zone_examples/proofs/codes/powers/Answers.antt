-- The row `powers`: powers of the primitive element. The checker computes it.
use Rattle.std.proofs.Common.{refl}
use Rattle.zone_examples.proofs.Unfoldings.{computing_all}
use Rattle.zone_examples.proofs.codes.powers.Goals as goal

pub returns : goal.returns
unfolding computing_all
returns c = refl
