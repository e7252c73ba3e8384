-- The row `first_block_session`: a console record and a dump of the block store. The checker
-- computes it.
use Rattle.std.proofs.Common.{refl}
use Rattle.command_examples.proofs.Unfoldings.{computing_blk}
use Rattle.command_examples.proofs.first_block_session.Goals as goal

pub returns : goal.returns
unfolding computing_blk
returns c = refl
