-- A ring that stands for a list is listed as that list, or not at all if the list is empty. By
-- `RingLists`.
use Rattle.blk_laws.proofs.RingLists.{standing-listed}
use Rattle.blk_laws.proofs.standing_ring_is_listed.Goals as goal

pub returns : goal.returns
returns c = standing-listed
