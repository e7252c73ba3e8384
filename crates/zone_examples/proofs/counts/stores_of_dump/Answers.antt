-- The row `stores_of_dump`: how many stores a dump makes. The checker computes it.
use Rattle.std.proofs.Common.{refl}
use Rattle.zone_examples.proofs.Unfoldings.{computing_all}
use Rattle.zone_examples.proofs.counts.stores_of_dump.Goals as goal

pub returns : goal.returns
unfolding computing_all
returns c = (refl, refl, refl)
