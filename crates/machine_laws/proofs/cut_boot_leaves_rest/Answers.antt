-- A cut boot leaves the bytes after the last zone. By `CutBoot`.
use Rattle.machine_laws.proofs.CutBoot.{cut_boot_leaves_rest as law}
use Rattle.machine_laws.proofs.cut_boot_leaves_rest.Goals as goal

pub returns : goal.returns
returns c = law
