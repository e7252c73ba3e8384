-- The row `first_draws`: the first draws of a generated session. The checker computes it.
use Rattle.std.proofs.Common.{refl}
use Rattle.command_examples.proofs.Unfoldings.{computing_tool}
use Rattle.command_examples.proofs.first_draws.Goals as goal

pub returns : goal.returns
unfolding computing_tool
returns c = refl
