-- The row `move_of_unlisted_dump`: a move of a dump zone without a time line. The checker computes
-- it.
use Rattle.std.proofs.Common.{refl}
use Rattle.command_examples.proofs.Unfoldings.{computing_calls}
use Rattle.command_examples.proofs.move_of_unlisted_dump.Goals as goal

pub returns : goal.returns
unfolding computing_calls
returns c = (refl, refl)
