-- The row `two_writers`: two writers of a shared zone, of which one is not done. The checker
-- computes it.
use Rattle.std.proofs.Common.{refl}
use Rattle.command_examples.proofs.Unfoldings.{computing_calls}
use Rattle.command_examples.proofs.two_writers.Goals as goal

pub returns : goal.returns
unfolding computing_calls
returns c = (refl, refl)
