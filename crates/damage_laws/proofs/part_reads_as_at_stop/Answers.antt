-- A header or block that is within bounds reads as at its zone's stop. By `Within`.
use Rattle.damage_laws.proofs.Within.{part_reads_as_at_stop as law}
use Rattle.damage_laws.proofs.part_reads_as_at_stop.Goals as goal

pub returns : goal.returns
returns c = law
