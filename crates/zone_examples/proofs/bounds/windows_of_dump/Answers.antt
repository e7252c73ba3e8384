-- The row `windows_of_dump`: the words before and after each part of a dump. The checker computes
-- it.
use Rattle.std.proofs.Common.{refl}
use Rattle.zone_examples.proofs.Unfoldings.{computing_all}
use Rattle.zone_examples.proofs.bounds.windows_of_dump.Goals as goal

pub returns : goal.returns
unfolding computing_all
returns c = refl
