-- The row `ftrace_rings_kept`: which ftrace rings a boot keeps. The checker computes it.
use Rattle.std.proofs.Common.{refl}
use Rattle.zone_examples.proofs.Unfoldings.{computing_all}
use Rattle.zone_examples.proofs.ftrace.ftrace_rings_kept.Goals as goal

pub returns : goal.returns
unfolding computing_all
returns c = (refl, refl, refl, refl, refl)
