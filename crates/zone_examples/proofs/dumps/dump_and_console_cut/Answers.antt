-- The row `dump_and_console_cut`: a dump and an append, both cut by one stop. The checker computes
-- it.
use Rattle.std.proofs.Common.{refl}
use Rattle.zone_examples.proofs.Unfoldings.{computing_all}
use Rattle.zone_examples.proofs.dumps.dump_and_console_cut.Goals as goal

pub returns : goal.returns
unfolding computing_all
returns c = (refl, refl, refl, refl)
