-- The row `two_shapes_at_one_place`: a place of a dump at which two shapes fit. The checker
-- computes it.
use Rattle.std.proofs.Common.{refl}
use Rattle.command_examples.proofs.Unfoldings.{computing_rings}
use Rattle.command_examples.proofs.two_shapes_at_one_place.Goals as goal

pub returns : goal.returns
unfolding computing_rings
returns c = refl
