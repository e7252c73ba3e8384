-- The row `dump_keeps_front`: a body longer than its zone keeps its front. The checker computes
-- it.
use Rattle.std.proofs.Common.{refl}
use Rattle.zone_examples.proofs.Unfoldings.{computing_all}
use Rattle.zone_examples.proofs.dumps.dump_keeps_front.Goals as goal

pub returns : goal.returns
unfolding computing_all
returns c = refl
