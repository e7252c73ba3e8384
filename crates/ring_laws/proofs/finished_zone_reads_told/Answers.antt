-- A zone that a boot has finished reads what the boot kept. By `Laws`.
use Rattle.ring_laws.proofs.Laws.{finished_zone_reads_told as law}
use Rattle.ring_laws.proofs.finished_zone_reads_told.Goals as goal

pub returns : goal.returns
returns c = law
