-- The row `ring_in_dump`: a ring between the places of a dump, and its log. The checker computes
-- it.
use Rattle.std.proofs.Common.{refl}
use Rattle.command_examples.proofs.Unfoldings.{computing_rings}
use Rattle.command_examples.proofs.ring_in_dump.Goals as goal

pub returns : goal.returns
unfolding computing_rings
returns c = (refl, refl, refl, refl, refl, refl)
