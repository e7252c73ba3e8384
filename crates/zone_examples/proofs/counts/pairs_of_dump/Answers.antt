-- The row `pairs_of_dump`: the words that a dump goes through. The checker computes it.
use Rattle.std.proofs.Common.{refl}
use Rattle.zone_examples.proofs.Unfoldings.{computing_all}
use Rattle.zone_examples.proofs.counts.pairs_of_dump.Goals as goal

pub returns : goal.returns
unfolding computing_all
returns c = refl
