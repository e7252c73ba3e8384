-- The row `full_ring_overwritten`: all bytes of a full ring written anew. The checker computes it.
use Rattle.std.proofs.Common.{refl}
use Rattle.zone_examples.proofs.Unfoldings.{computing_all}
use Rattle.zone_examples.proofs.counts.full_ring_overwritten.Goals as goal

pub returns : goal.returns
unfolding computing_all
returns c = refl
