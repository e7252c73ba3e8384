-- What a boot reads of a zone whose call a stop cut, or whose erasure an earlier boot's stop cut.
-- By `Boots`.
use Rattle.machine_laws.proofs.Boots.{cut_zones_read as law}
use Rattle.machine_laws.proofs.cut_zones_read.Goals as goal

pub returns : goal.returns
returns c = law
