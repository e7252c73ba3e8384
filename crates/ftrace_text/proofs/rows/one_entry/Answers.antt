-- The checker computes the row. For `one_entry`.
use Rattle.std.proofs.Common.{refl}
use Rattle.ftrace_text.proofs.Unfoldings.{computing}
use Rattle.ftrace_text.proofs.rows.one_entry.Goals as goal

pub returns : goal.returns
unfolding computing
returns c = (refl, refl, refl, refl)
