-- The row `cut_erasure_of_large_ring`: an erasure of a ring of 4084 bytes, cut after its start
-- word. The checker computes it.
use Rattle.std.proofs.Common.{refl}
use Rattle.zone_examples.proofs.Unfoldings.{computing_all}
use Rattle.zone_examples.proofs.calls.cut_erasure_of_large_ring.Goals as goal

pub returns : goal.returns
unfolding computing_all
returns c = (refl, refl, refl)
