-- The row `big_endian_record`. The checker computes it.
use Rattle.std.proofs.Common.{refl}
use Rattle.zone_examples.proofs.Unfoldings.{computing_all}
use Rattle.zone_examples.proofs.big_endian.big_endian_record.Goals as goal

pub returns : goal.returns
unfolding computing_all
returns c = (refl, refl, refl)
