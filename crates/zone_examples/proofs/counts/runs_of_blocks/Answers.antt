-- The row `runs_of_blocks`: numbers of blocks as runs. The checker computes it.
use Rattle.std.proofs.Common.{refl}
use Rattle.zone_examples.proofs.Unfoldings.{computing_all}
use Rattle.zone_examples.proofs.counts.runs_of_blocks.Goals as goal

pub returns : goal.returns
unfolding computing_all
returns c = (refl, refl, refl)
