-- The row `records_in_order`: the order of records. The checker computes it.
use Rattle.std.proofs.Common.{refl}
use Rattle.zone_examples.proofs.Unfoldings.{computing_all}
use Rattle.zone_examples.proofs.refusals.records_in_order.Goals as goal

pub returns : goal.returns
unfolding computing_all
returns c = refl
