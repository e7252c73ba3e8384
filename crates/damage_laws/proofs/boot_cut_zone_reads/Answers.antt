-- What a zone reads whose erasure by a boot was cut. By `BootCut`.
use Rattle.damage_laws.proofs.BootCut.{boot_cut_zone_reads as law}
use Rattle.damage_laws.proofs.boot_cut_zone_reads.Goals as goal

pub returns : goal.returns
returns c = law
