-- The row `session_with_parity`: a whole session with one parity byte. The checker computes it.
use Rattle.std.proofs.Common.{refl}
use Rattle.zone_examples.proofs.Unfoldings.{computing_all}
use Rattle.zone_examples.proofs.parity.session_with_parity.Goals as goal

pub returns : goal.returns
unfolding computing_all
returns c = (refl, refl)
