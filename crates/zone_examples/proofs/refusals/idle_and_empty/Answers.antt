-- The row `idle_and_empty`: steps without a flight, and appends of no bytes. The checker computes
-- it.
use Rattle.std.proofs.Common.{refl}
use Rattle.zone_examples.proofs.Unfoldings.{computing_all}
use Rattle.zone_examples.proofs.refusals.idle_and_empty.Goals as goal

pub returns : goal.returns
unfolding computing_all
returns c = (refl, refl, refl)
