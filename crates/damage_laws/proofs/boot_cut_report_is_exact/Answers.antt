-- What a boot reports of an earlier boot's cut erasure is that erasure's. By `CutNumbers`.
use Rattle.damage_laws.proofs.CutNumbers.{boot_cut_report_is_exact as law}
use Rattle.damage_laws.proofs.boot_cut_report_is_exact.Goals as goal

pub returns : goal.returns
returns c = law
