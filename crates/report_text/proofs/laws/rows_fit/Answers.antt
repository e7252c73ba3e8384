-- No row takes more than 76 columns. By `Cuts`.
use Rattle.std.proofs.Common.{[], refl, arith}
use Rattle.report_text.proofs.Cuts.{narrow}
use Rattle.report_text.proofs.laws.rows_fit.Goals as goal

pub returns : goal.returns
returns c = λ bytes. narrow [] 0 bytes refl (omega arith)
