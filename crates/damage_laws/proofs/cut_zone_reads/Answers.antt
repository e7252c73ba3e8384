-- What a zone reads whose call a stop cut, and whose header is not damaged further. By
-- `CutHeader`.
use Rattle.damage_laws.proofs.CutHeader.{cut_zone_reads as law}
use Rattle.damage_laws.proofs.cut_zone_reads.Goals as goal

pub returns : goal.returns
returns c = law
