-- The row `commands_without_script`: commands that read no script. The checker computes it.
use Rattle.std.proofs.Common.{refl}
use Rattle.command_examples.proofs.Unfoldings.{computing_tool}
use Rattle.command_examples.proofs.commands_without_script.Goals as goal

pub returns : goal.returns
unfolding computing_tool
returns c = (refl, refl, refl, refl, refl, refl)
