-- The checker computes the row. For `form_given`.
use Rattle.std.proofs.Common.{refl}
use Rattle.ftrace_text.proofs.Unfoldings.{computing}
use Rattle.ftrace_text.proofs.rows.form_given.Goals as goal

pub returns : goal.returns
unfolding computing
returns c = refl
