-- The row `flipped_log_kept`: a flip, and two boots that are cut. The checker computes it.
use Rattle.std.proofs.Common.{refl}
use Rattle.zone_examples.proofs.Unfoldings.{computing_all}
use Rattle.history_spec.specs.Written.{written}
use Rattle.zone_examples.proofs.histories.flipped_log_kept.Goals as goal

pub returns : goal.returns
unfolding computing_all written
returns c = refl
