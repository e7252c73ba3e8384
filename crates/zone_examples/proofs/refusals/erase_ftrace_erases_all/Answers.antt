-- The row `erase_ftrace_erases_all`: the erasure of the ftrace record. The checker computes it.
use Rattle.std.proofs.Common.{refl}
use Rattle.zone_examples.proofs.Unfoldings.{computing_all}
use Rattle.zone_examples.proofs.refusals.erase_ftrace_erases_all.Goals as goal

pub returns : goal.returns
unfolding computing_all
returns c = (refl, refl, refl, refl)
