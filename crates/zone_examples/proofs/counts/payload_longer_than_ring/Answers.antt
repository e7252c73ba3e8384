-- The row `payload_longer_than_ring`: a payload longer than the ring is its last bytes. The
-- checker computes it.
use Rattle.std.proofs.Common.{refl}
use Rattle.zone_examples.proofs.Unfoldings.{computing_all}
use Rattle.zone_examples.proofs.counts.payload_longer_than_ring.Goals as goal

pub returns : goal.returns
unfolding computing_all
returns c = (refl, refl)
