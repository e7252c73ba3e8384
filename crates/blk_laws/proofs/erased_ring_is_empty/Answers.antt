-- An erasure leaves a ring that stands for the empty list. By `RingLists`.
use Rattle.blk_laws.proofs.RingLists.{erased}
use Rattle.blk_laws.proofs.erased_ring_is_empty.Goals as goal

pub returns : goal.returns
returns c = erased
