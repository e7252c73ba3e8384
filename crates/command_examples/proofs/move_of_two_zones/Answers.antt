-- The row `move_of_two_zones`: a move of a record of two zones. The checker computes it.
use Rattle.std.proofs.Common.{refl}
use Rattle.command_examples.proofs.Unfoldings.{computing_calls}
use Rattle.command_examples.proofs.move_of_two_zones.Goals as goal

pub returns : goal.returns
unfolding computing_calls
returns c = (refl, refl, refl, refl)
