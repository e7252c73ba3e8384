-- The row `dumps_with_kept_zone`: dumps, of which one is erased. The checker computes it.
use Rattle.std.proofs.Common.{refl}
use Rattle.command_examples.proofs.Unfoldings.{computing_tool}
use Rattle.command_examples.proofs.dumps_with_kept_zone.Goals as goal

pub returns : goal.returns
unfolding computing_tool
returns c = refl
