-- The row `cut_erasure_of_full_ring`: an erasure of a ring that has wrapped, cut after its start
-- word. The checker computes it.
use Rattle.std.proofs.Common.{refl}
use Rattle.zone_examples.proofs.Unfoldings.{computing_all}
use Rattle.zone_examples.proofs.calls.cut_erasure_of_full_ring.Goals as goal

pub returns : goal.returns
unfolding computing_all
returns c = (refl, refl)
