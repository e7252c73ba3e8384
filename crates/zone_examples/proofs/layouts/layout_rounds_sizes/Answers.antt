-- The row `layout_rounds_sizes`: sizes that are no powers of two. The checker computes it.
use Rattle.std.proofs.Common.{refl}
use Rattle.zone_examples.proofs.Unfoldings.{computing_all}
use Rattle.zone_examples.proofs.layouts.layout_rounds_sizes.Goals as goal

pub returns : goal.returns
unfolding computing_all
returns c = (refl, refl, refl)
