-- The row `front_of_log_dropped`: the bytes at the front of a log that make no whole entry. The
-- checker computes it.
use Rattle.std.proofs.Common.{refl}
use Rattle.zone_examples.proofs.Unfoldings.{computing_all}
use Rattle.zone_examples.proofs.ftrace.front_of_log_dropped.Goals as goal

pub returns : goal.returns
unfolding computing_all
returns c = refl
