-- The row `shared_refusals`: lines and layouts that `shared-run` refuses, and lines that it does
-- not. The checker computes it.
use Rattle.std.proofs.Common.{refl}
use Rattle.command_examples.proofs.Unfoldings.{computing_calls}
use Rattle.command_examples.proofs.shared_refusals.Goals as goal

pub returns : goal.returns
unfolding computing_calls
returns c = (refl, refl, refl, refl, refl, refl, refl, refl)
