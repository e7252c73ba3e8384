-- The row `zeros_are_empty`: a zone of zeros where the signature is 0. The checker computes it.
use Rattle.std.proofs.Common.{refl}
use Rattle.zone_examples.proofs.Unfoldings.{computing_all}
use Rattle.zone_examples.proofs.ftrace.zeros_are_empty.Goals as goal

pub returns : goal.returns
unfolding computing_all
returns c = (refl, refl)
