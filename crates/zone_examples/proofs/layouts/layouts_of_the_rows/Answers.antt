-- The row `layouts_of_the_rows`: the layouts that the other rows begin with. The checker computes
-- it.
use Rattle.std.proofs.Common.{refl}
use Rattle.zone_examples.proofs.Unfoldings.{computing_all}
use Rattle.zone_examples.proofs.layouts.layouts_of_the_rows.Goals as goal

pub returns : goal.returns
unfolding computing_all
returns c = (refl, refl, refl, refl)
