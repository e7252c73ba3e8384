-- The row `cut_at_the_end`: a write to the block store that is cut at its end, and one byte before. The checker
-- computes it.
use Rattle.std.proofs.Common.{refl}
use Rattle.command_examples.proofs.Unfoldings.{computing_blk}
use Rattle.command_examples.proofs.cut_at_the_end.Goals as goal

pub returns : goal.returns
unfolding computing_blk
returns c = (refl, refl)
