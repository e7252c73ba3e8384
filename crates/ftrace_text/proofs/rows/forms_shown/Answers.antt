-- The checker computes the row. For `forms_shown`.
use Rattle.std.proofs.Common.{refl}
use Rattle.ftrace_text.proofs.Unfoldings.{computing}
use Rattle.ftrace_text.proofs.rows.forms_shown.Goals as goal

pub returns : goal.returns
unfolding computing
returns c = (refl, refl, refl, refl, refl, refl, refl)
