-- The row `pairs_of_erasure_and_append`: the words that an erasure and an append go through. The
-- checker computes it.
use Rattle.std.proofs.Common.{refl}
use Rattle.zone_examples.proofs.Unfoldings.{computing_all}
use Rattle.zone_examples.proofs.counts.pairs_of_erasure_and_append.Goals as goal

pub returns : goal.returns
unfolding computing_all
returns c = (refl, refl)
