-- After a cut boot a zone reads the same until its erasure has begun, and what the boot kept once
-- it has finished. By `CutBoot`.
use Rattle.machine_laws.proofs.CutBoot.{cut_boot_reads as law}
use Rattle.machine_laws.proofs.cut_boot_reads.Goals as goal

pub returns : goal.returns
returns c = law
