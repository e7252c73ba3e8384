-- The row `two_processors_merged`: the entries of two processors, merged by time. The checker
-- computes it.
use Rattle.std.proofs.Common.{refl}
use Rattle.zone_examples.proofs.Unfoldings.{computing_all}
use Rattle.zone_examples.proofs.ftrace.two_processors_merged.Goals as goal

pub returns : goal.returns
unfolding computing_all
returns c = (refl, refl)
