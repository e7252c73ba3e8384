-- Of the stores that a cut boot made, each zone has its own, and no other. By `CutBoot`.
use Rattle.machine_laws.proofs.CutBoot.{cut_boot_makes_stores as law}
use Rattle.machine_laws.proofs.cut_boot_makes_stores.Goals as goal

pub returns : goal.returns
returns c = law
