-- An erasure, done or failed, leaves the store its size, so the next call has its room. For
-- `Blk::erase`.
use Rattle.zone_blk.proofs.LoadingWrites.{room-makes, room-fails}
use Rattle.zone_blk.proofs.blk.Blk.erase.Goals as goal

pub returns-in-Ok-clause-room : goal.returns-in-Ok-clause-room
returns-in-Ok-clause-room g c = room-makes _ _ _ _ _ _ c.in-Ok.ensures.ends

pub returns-in-Err-clause-room : goal.returns-in-Err-clause-room
returns-in-Err-clause-room g c = room-fails _ _ _ _ _ _ c.in-Err.ensures.ends
