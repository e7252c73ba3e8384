-- The row `layout_of_odd_sizes`: dump zones of an odd size, and a last block without data. The
-- checker computes it.
use Rattle.std.proofs.Common.{refl}
use Rattle.zone_examples.proofs.Unfoldings.{computing_all}
use Rattle.zone_examples.proofs.layouts.layout_of_odd_sizes.Goals as goal

pub returns : goal.returns
unfolding computing_all
returns c = (refl, refl)
