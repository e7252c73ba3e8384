-- What a boot reports of a zone and its cut is exact. By `Boots`.
use Rattle.machine_laws.proofs.Boots.{report_is_exact as law}
use Rattle.machine_laws.proofs.report_is_exact.Goals as goal

pub returns : goal.returns
returns c = law
