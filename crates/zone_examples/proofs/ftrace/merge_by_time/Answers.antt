-- The row `merge_by_time`: the merge of several logs. The checker computes it.
use Rattle.std.proofs.Common.{refl}
use Rattle.zone_examples.proofs.Unfoldings.{computing_all}
use Rattle.zone_examples.proofs.ftrace.merge_by_time.Goals as goal

pub returns : goal.returns
unfolding computing_all
returns c = (refl, refl)
