-- A zone that held what it was told, and whose header is within bounds, reads it but for blocks
-- out of bounds. By `Within`.
use Rattle.damage_laws.proofs.Within.{idle_zone_reads_told as law}
use Rattle.damage_laws.proofs.idle_zone_reads_told.Goals as goal

pub returns : goal.returns
returns c = law
