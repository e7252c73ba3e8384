-- Every loading lists the reading of the store's bytes, whatever was done before it. By
-- `RingLists`.
use Rattle.blk_laws.proofs.RingLists.{loading}
use Rattle.blk_laws.proofs.loading_lists_reading.Goals as goal

pub returns : goal.returns
returns c = λ l s e. loading l s.store s.blk e
