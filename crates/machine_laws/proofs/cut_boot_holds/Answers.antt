-- The told list, the cut and the stop of each zone after a cut boot. By `CutBoot`.
use Rattle.machine_laws.proofs.CutBoot.{cut_boot_holds as law}
use Rattle.machine_laws.proofs.cut_boot_holds.Goals as goal

pub returns : goal.returns
returns c = law
