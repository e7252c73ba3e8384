-- The row `dump_is_busy`: a call in any dump zone is in the way of a dump. The checker computes
-- it.
use Rattle.std.proofs.Common.{refl}
use Rattle.zone_examples.proofs.Unfoldings.{computing_all}
use Rattle.zone_examples.proofs.dumps.dump_is_busy.Goals as goal

pub returns : goal.returns
unfolding computing_all
returns c = (refl, refl)
