-- The row `layout_in_either_order`: ftrace before pmsg, and pmsg before ftrace. The checker computes it.
use Rattle.std.proofs.Common.{refl}
use Rattle.zone_examples.proofs.Unfoldings.{computing_all}
use Rattle.zone_examples.proofs.layouts.layout_in_either_order.Goals as goal

pub returns : goal.returns
unfolding computing_all
returns c = (refl, refl)
