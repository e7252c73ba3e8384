-- The row `worked_refusals`: lines that are bad or refused. The checker computes it.
use Rattle.std.proofs.Common.{refl}
use Rattle.command_examples.proofs.Unfoldings.{computing_tool}
use Rattle.command_examples.proofs.worked_refusals.Goals as goal

pub returns : goal.returns
unfolding computing_tool
returns c = (refl, refl, refl, refl, refl, refl, refl, refl)
