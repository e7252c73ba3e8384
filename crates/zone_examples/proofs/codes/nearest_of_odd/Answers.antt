-- The row `nearest_of_odd`: words with one and with three parity bytes. Computed with `Given`.
use Rattle.std.proofs.Common.{refl, [], ◌∷◌}
use Rattle.zone_examples.proofs.Unfoldings.{computing}
use Rattle.zone_examples.proofs.Given.{given_nearest, given_none}
use Rattle.zone_examples.proofs.codes.nearest_of_odd.Goals as goal

pub returns : goal.returns
unfolding computing
returns c = (
  given_nearest 1 (7 ∷ 7 ∷ []) (7 ∷ 7 ∷ []) refl,
  given_none 1 (7 ∷ 6 ∷ []) refl,
  given_nearest 3 (1 ∷ 7 ∷ 14 ∷ 9 ∷ []) (1 ∷ 7 ∷ 14 ∷ 8 ∷ []) refl,
)
