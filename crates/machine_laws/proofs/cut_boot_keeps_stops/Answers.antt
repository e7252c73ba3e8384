-- A cut boot leaves what is held of a zone, or its end becomes the zone's stop. By `CutBoot`.
use Rattle.machine_laws.proofs.CutBoot.{cut_boot_keeps_stops as law}
use Rattle.machine_laws.proofs.cut_boot_keeps_stops.Goals as goal

pub returns : goal.returns
returns c = law
