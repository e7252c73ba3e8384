-- The row `worked_layouts`: layouts with and without parity, of odd sizes, and with small blocks.
-- The checker computes it.
use Rattle.std.proofs.Common.{refl}
use Rattle.command_examples.proofs.Unfoldings.{computing_tool}
use Rattle.command_examples.proofs.worked_layouts.Goals as goal

pub returns : goal.returns
unfolding computing_tool
returns c = (refl, refl, refl, refl)
