-- The row `appends_written`: appends made, begun, finished and cut. The checker computes it.
use Rattle.std.proofs.Common.{refl}
use Rattle.zone_examples.proofs.Unfoldings.{computing_all}
use Rattle.history_spec.specs.Written.{written}
use Rattle.zone_examples.proofs.histories.appends_written.Goals as goal

pub returns : goal.returns
unfolding computing_all written
returns c = refl
