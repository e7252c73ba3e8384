-- The row `overwritten_dump`: a dump of the block store that overwrites a listed one. The checker computes it.
use Rattle.std.proofs.Common.{refl}
use Rattle.command_examples.proofs.Unfoldings.{computing_blk}
use Rattle.command_examples.proofs.overwritten_dump.Goals as goal

pub returns : goal.returns
unfolding computing_blk
returns c = refl
