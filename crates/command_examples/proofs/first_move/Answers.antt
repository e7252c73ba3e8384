-- The row `first_move`: a move of a dump and of a console that runs round its ring; pmsg is left.
-- The checker computes it.
use Rattle.std.proofs.Common.{refl}
use Rattle.command_examples.proofs.Unfoldings.{computing_calls}
use Rattle.command_examples.proofs.first_move.Goals as goal

pub returns : goal.returns
unfolding computing_calls
returns c = (refl, refl)
