-- The layout with one parity byte computes.
use Rattle.std.proofs.Common.{refl}
use Rattle.zone_examples.proofs.Unfoldings.{computing_all}
use Rattle.zone_examples.proofs.layouts.layout_with_one_byte.Goals as goal

pub returns : goal.returns
unfolding computing_all
returns c = refl
