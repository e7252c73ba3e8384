-- The row `cut_after_size_word`: an append cut after its first store: the size word stands, the
-- start word does not. The checker computes it.
use Rattle.std.proofs.Common.{refl}
use Rattle.zone_examples.proofs.Unfoldings.{computing_all}
use Rattle.zone_examples.proofs.calls.cut_after_size_word.Goals as goal

pub returns : goal.returns
unfolding computing_all
returns c = (refl, refl)
