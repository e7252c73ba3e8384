-- The row `wrapped_large_ring`: one byte more than a ring of 4084 bytes holds. The checker
-- computes it.
use Rattle.std.proofs.Common.{refl}
use Rattle.zone_examples.proofs.Unfoldings.{computing_all}
use Rattle.zone_examples.proofs.calls.wrapped_large_ring.Goals as goal

pub returns : goal.returns
unfolding computing_all
returns c = (refl, refl, refl, refl)
