-- The row `no_ring_in_dump`: dumps with what is almost a ring. The checker computes it.
use Rattle.std.proofs.Common.{refl}
use Rattle.command_examples.proofs.Unfoldings.{computing_rings}
use Rattle.command_examples.proofs.no_ring_in_dump.Goals as goal

pub returns : goal.returns
unfolding computing_rings
returns c = (refl, refl, refl, refl, refl, refl)
