-- The row `bytes_of_kept_dumps`: the bytes of a dump zone that was erased, and of one that was
-- kept. The checker computes it.
use Rattle.std.proofs.Common.{refl}
use Rattle.zone_examples.proofs.Unfoldings.{computing_all}
use Rattle.zone_examples.proofs.dumps.bytes_of_kept_dumps.Goals as goal

pub returns : goal.returns
unfolding computing_all
returns c = (refl, refl, refl)
