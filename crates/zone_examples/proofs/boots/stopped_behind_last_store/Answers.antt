-- The row `stopped_behind_last_store`: a boot cut after its last store is whole. The checker
-- computes it.
use Rattle.std.proofs.Common.{refl}
use Rattle.zone_examples.proofs.Unfoldings.{computing_all}
use Rattle.zone_examples.proofs.boots.stopped_behind_last_store.Goals as goal

pub returns : goal.returns
unfolding computing_all
returns c = refl
