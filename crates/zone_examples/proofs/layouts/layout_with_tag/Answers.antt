-- The row `layout_with_tag`: the tag of ftrace zones. The checker computes it.
use Rattle.std.proofs.Common.{refl}
use Rattle.zone_examples.proofs.Unfoldings.{computing_all}
use Rattle.zone_examples.proofs.layouts.layout_with_tag.Goals as goal

pub returns : goal.returns
unfolding computing_all
returns c = refl
