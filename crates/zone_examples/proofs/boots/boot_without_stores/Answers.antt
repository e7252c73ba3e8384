-- The row `boot_without_stores`: a boot without stores, cut after none. The checker computes it.
use Rattle.std.proofs.Common.{refl}
use Rattle.zone_examples.proofs.Unfoldings.{computing_all}
use Rattle.zone_examples.proofs.boots.boot_without_stores.Goals as goal

pub returns : goal.returns
unfolding computing_all
returns c = refl
