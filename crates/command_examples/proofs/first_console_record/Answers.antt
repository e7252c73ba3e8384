-- The row `first_console_record`: a record that is listed and extracted. The checker computes it.
use Rattle.std.proofs.Common.{refl}
use Rattle.command_examples.proofs.Unfoldings.{computing_tool}
use Rattle.command_examples.proofs.first_console_record.Goals as goal

pub returns : goal.returns
unfolding computing_tool
returns c = refl
