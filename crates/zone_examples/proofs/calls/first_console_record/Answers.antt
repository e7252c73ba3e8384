-- The row `first_console_record`: what a console was told is read at the next boot, listed, and
-- erased. The checker computes it.
use Rattle.std.proofs.Common.{refl}
use Rattle.zone_examples.proofs.Unfoldings.{computing_all}
use Rattle.zone_examples.proofs.calls.first_console_record.Goals as goal

pub returns : goal.returns
unfolding computing_all
returns c = (refl, refl, refl, refl)
