-- The row `nearest_of_two`: words with two parity bytes. Computed with `Given` and `LeftAway`.
use Rattle.std.proofs.Common.{refl, [], ◌∷◌}
use Rattle.zone_examples.proofs.Unfoldings.{computing}
use Rattle.zone_examples.proofs.Given.{given_nearest, given_none}
use Rattle.zone_examples.proofs.LeftAway.{left_away}
use Rattle.zone_examples.proofs.codes.nearest_of_two.Goals as goal

pub returns : goal.returns
unfolding computing
returns c = (
  given_nearest 2 (1 ∷ 3 ∷ 2 ∷ []) (1 ∷ 3 ∷ 2 ∷ []) refl,
  given_nearest 2 (0 ∷ 3 ∷ 2 ∷ []) (1 ∷ 3 ∷ 2 ∷ []) refl,
  refl,
  given_nearest 2 (1 ∷ 3 ∷ 3 ∷ []) (1 ∷ 3 ∷ 2 ∷ []) refl,
  given_none 2 (0 ∷ 2 ∷ 2 ∷ []) refl,
  left_away,
)
