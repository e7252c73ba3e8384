-- The row `layout_of_small_blocks`: blocks of 32 bytes, and dump zones without parity. The checker
-- computes it.
use Rattle.std.proofs.Common.{refl}
use Rattle.zone_examples.proofs.Unfoldings.{computing_all}
use Rattle.zone_examples.proofs.layouts.layout_of_small_blocks.Goals as goal

pub returns : goal.returns
unfolding computing_all
returns c = refl
