-- The row `dump_records`: names and contents of dumps. The checker computes it.
use Rattle.std.proofs.Common.{refl}
use Rattle.zone_examples.proofs.Unfoldings.{computing_all}
use Rattle.zone_examples.proofs.notices.dump_records.Goals as goal

pub returns : goal.returns
unfolding computing_all
returns c = (refl, refl, refl, refl, refl)
