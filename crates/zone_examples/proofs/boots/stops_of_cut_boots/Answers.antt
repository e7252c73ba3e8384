-- The row `stops_of_cut_boots`: the stops of zones after cut boots. The checker computes it.
use Rattle.std.proofs.Common.{refl}
use Rattle.zone_examples.proofs.Unfoldings.{computing_all}
use Rattle.zone_examples.proofs.boots.stops_of_cut_boots.Goals as goal

pub returns : goal.returns
unfolding computing_all
returns c = (refl, refl, refl, refl, refl)
