-- The checker computes the row. For `two_short_logs`.
use Rattle.std.proofs.Common.{refl}
use Rattle.ftrace_text.proofs.Unfoldings.{computing}
use Rattle.ftrace_text.proofs.rows.two_short_logs.Goals as goal

pub returns : goal.returns
unfolding computing
returns c = refl
