-- The row `first_crash`: the first crash: a record of the message log. The checker computes it.
use Rattle.std.proofs.Common.{refl}
use Rattle.command_examples.proofs.Unfoldings.{computing_tool}
use Rattle.command_examples.proofs.first_crash.Goals as goal

pub returns : goal.returns
unfolding computing_tool
returns c = refl
