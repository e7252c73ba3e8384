-- The checker computes the row. For `kernels_lines`.
use Rattle.std.proofs.Common.{refl}
use Rattle.ftrace_text.proofs.Unfoldings.{computing}
use Rattle.ftrace_text.proofs.rows.kernels_lines.Goals as goal

pub returns : goal.returns
unfolding computing
returns c = (refl, refl)
