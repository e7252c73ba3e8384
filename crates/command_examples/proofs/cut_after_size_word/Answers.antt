-- The row `cut_after_size_word`: a write that is stopped after its first store. The checker
-- computes it.
use Rattle.std.proofs.Common.{refl}
use Rattle.command_examples.proofs.Unfoldings.{computing_tool}
use Rattle.command_examples.proofs.cut_after_size_word.Goals as goal

pub returns : goal.returns
unfolding computing_tool
returns c = refl
