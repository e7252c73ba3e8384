-- The row `worked_faults`: words, parameters, layouts and images that are refused. The checker
-- computes it.
use Rattle.std.proofs.Common.{refl}
use Rattle.command_examples.proofs.Unfoldings.{computing_tool}
use Rattle.command_examples.proofs.worked_faults.Goals as goal

pub returns : goal.returns
unfolding computing_tool
returns c = (refl, refl, refl, refl, refl, refl, refl, refl, refl, refl, refl, refl, refl, refl)
