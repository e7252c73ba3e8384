-- Wherever a boot is cut within a zone's corrections, the zone reads the same. By `Corrections`.
use Rattle.damage_laws.proofs.Corrections.{corrections_keep_reading as law}
use Rattle.damage_laws.proofs.corrections_keep_reading.Goals as goal

pub returns : goal.returns
returns c = law
