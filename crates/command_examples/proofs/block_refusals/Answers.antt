-- The row `block_refusals`: lines that the block store refuses. The checker computes it.
use Rattle.std.proofs.Common.{refl}
use Rattle.command_examples.proofs.Unfoldings.{computing_blk}
use Rattle.command_examples.proofs.block_refusals.Goals as goal

pub returns : goal.returns
unfolding computing_blk
returns c = (refl, refl, refl, refl)
