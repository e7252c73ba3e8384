-- An append to a ring that was not full, cut among its data bytes before its first header, leaves
-- what the ring stood for. By `RingLists`.
use Rattle.blk_laws.proofs.RingLists.{cut-append}
use Rattle.blk_laws.proofs.cut_append_lists_before.Goals as goal

pub returns : goal.returns
returns c = cut-append
