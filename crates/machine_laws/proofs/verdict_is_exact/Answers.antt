-- A verdict says whether a told list is known, whether it is the log, and else where the two first
-- differ. By `Boots`.
use Rattle.machine_laws.proofs.Boots.{verdict_is_exact as law}
use Rattle.machine_laws.proofs.verdict_is_exact.Goals as goal

pub returns : goal.returns
returns c = law
