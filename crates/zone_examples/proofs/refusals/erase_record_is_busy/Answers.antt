-- The row `erase_record_is_busy`: the erasure of a record beside flights. The checker computes it.
use Rattle.std.proofs.Common.{refl}
use Rattle.zone_examples.proofs.Unfoldings.{computing_all}
use Rattle.zone_examples.proofs.refusals.erase_record_is_busy.Goals as goal

pub returns : goal.returns
unfolding computing_all
returns c = (refl, refl)
