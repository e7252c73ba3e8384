-- All that a boot reads and reports of the zones of a sound state. By `ZoneReads`.
use Rattle.machine_laws.proofs.ZoneReads.{sound_state_reads_zones as law}
use Rattle.machine_laws.proofs.sound_state_reads_zones.Goals as goal

pub returns : goal.returns
returns c = law
