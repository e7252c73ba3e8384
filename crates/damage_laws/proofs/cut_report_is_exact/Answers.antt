-- What a boot reports of a cut call is the flight's, and the runs are the touched blocks. By
-- `CutNumbers`.
use Rattle.damage_laws.proofs.CutNumbers.{cut_report_is_exact as law}
use Rattle.damage_laws.proofs.cut_report_is_exact.Goals as goal

pub returns : goal.returns
returns c = law
