-- The row `wrong_states`: what a state has not. The checker computes it.
use Rattle.std.proofs.Common.{refl}
use Rattle.zone_examples.proofs.Unfoldings.{computing_all}
use Rattle.zone_examples.proofs.refusals.wrong_states.Goals as goal

pub returns : goal.returns
unfolding computing_all
returns c = (refl, refl)
