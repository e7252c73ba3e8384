-- The row `cut_block_write`: a write to the block store that is cut within its data. The checker
-- computes it.
use Rattle.std.proofs.Common.{refl}
use Rattle.command_examples.proofs.Unfoldings.{computing_blk}
use Rattle.command_examples.proofs.cut_block_write.Goals as goal

pub returns : goal.returns
unfolding computing_blk
returns c = refl
