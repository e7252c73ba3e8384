-- Writes within a zone, whole or cut after any byte, leave the bytes of every zone that shares
-- none with it. By `OwnZones`.
use Rattle.blk_laws.proofs.OwnZones.{stays-cut}
use Rattle.blk_laws.proofs.other_zones_stay.Goals as goal

pub returns : goal.returns
returns c = stays-cut
