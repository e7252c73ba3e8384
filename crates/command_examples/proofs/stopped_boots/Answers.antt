-- The row `stopped_boots`: boots that are stopped. The checker computes it.
use Rattle.std.proofs.Common.{refl}
use Rattle.command_examples.proofs.Unfoldings.{computing_tool}
use Rattle.command_examples.proofs.stopped_boots.Goals as goal

pub returns : goal.returns
unfolding computing_tool
returns c = (refl, refl)
