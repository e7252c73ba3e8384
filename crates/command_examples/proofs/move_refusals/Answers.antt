-- The row `move_refusals`: words, parameters, layouts and images that a move refuses. The checker
-- computes it.
use Rattle.std.proofs.Common.{refl}
use Rattle.command_examples.proofs.Unfoldings.{computing_calls}
use Rattle.command_examples.proofs.move_refusals.Goals as goal

pub returns : goal.returns
unfolding computing_calls
returns c = (refl, refl, refl, refl, refl, refl)
