-- The row `ftrace_ring_not_kept`: an ftrace ring that cannot be appended to is listed and erased.
-- The checker computes it.
use Rattle.std.proofs.Common.{refl}
use Rattle.zone_examples.proofs.Unfoldings.{computing_all}
use Rattle.zone_examples.proofs.ftrace.ftrace_ring_not_kept.Goals as goal

pub returns : goal.returns
unfolding computing_all
returns c = (refl, refl)
