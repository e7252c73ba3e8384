-- The row `move_to_parity`: a move to zones with parity: the longest log that fits, and one byte
-- more. The checker computes it.
use Rattle.std.proofs.Common.{refl}
use Rattle.command_examples.proofs.Unfoldings.{computing_calls}
use Rattle.command_examples.proofs.move_to_parity.Goals as goal

pub returns : goal.returns
unfolding computing_calls
returns c = refl
