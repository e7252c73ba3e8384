-- The row `parts_of_zones`: where the parts of a zone lie. The checker computes it.
use Rattle.std.proofs.Common.{refl}
use Rattle.zone_examples.proofs.Unfoldings.{computing_all}
use Rattle.zone_examples.proofs.parity.parts_of_zones.Goals as goal

pub returns : goal.returns
unfolding computing_all
returns c = (
  (refl, refl),
  (refl, refl),
  (refl, refl, refl, refl),
  (refl, refl),
  (refl, refl, refl, refl, refl, refl, refl),
)
