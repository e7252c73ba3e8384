-- The row `later_writer`: a writer of a shared zone that has a log. The checker computes it.
use Rattle.std.proofs.Common.{refl}
use Rattle.command_examples.proofs.Unfoldings.{computing_calls}
use Rattle.command_examples.proofs.later_writer.Goals as goal

pub returns : goal.returns
unfolding computing_calls
returns c = (refl, refl)
