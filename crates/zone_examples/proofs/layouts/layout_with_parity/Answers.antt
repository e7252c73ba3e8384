-- The row `layout_with_parity`: four zones with sixteen parity bytes. The checker computes it.
use Rattle.std.proofs.Common.{refl}
use Rattle.zone_examples.proofs.Unfoldings.{computing_all}
use Rattle.zone_examples.proofs.layouts.layout_with_parity.Goals as goal

pub returns : goal.returns
unfolding computing_all
returns c = refl
