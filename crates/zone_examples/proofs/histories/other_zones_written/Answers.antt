-- The row `other_zones_written`: calls in other zones, a dump onto a dump, and an erasure. The
-- checker computes it.
use Rattle.std.proofs.Common.{refl}
use Rattle.zone_examples.proofs.Unfoldings.{computing_all}
use Rattle.history_spec.specs.Written.{written}
use Rattle.zone_examples.proofs.histories.other_zones_written.Goals as goal

pub returns : goal.returns
unfolding computing_all written
returns c = refl
