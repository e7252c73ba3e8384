-- The row `parities`: parities of short messages. Computed with `Given`.
use Rattle.std.proofs.Common.{refl, [], ◌∷◌, replicate}
use Rattle.zone_examples.proofs.Unfoldings.{computing}
use Rattle.zone_examples.proofs.Given.{given_parity}
use Rattle.zone_examples.proofs.codes.parities.Goals as goal

pub returns : goal.returns
unfolding computing
returns c = (
  given_parity 2 (1 ∷ []) (3 ∷ 2 ∷ []) refl,
  given_parity 4 (1 ∷ []) (15 ∷ 54 ∷ 120 ∷ 64 ∷ []) refl,
  given_parity 8 (1 ∷ []) (255 ∷ 11 ∷ 81 ∷ 54 ∷ 239 ∷ 173 ∷ 200 ∷ 24 ∷ []) refl,
  given_parity 8 (replicate 12 0) (replicate 8 0) refl,
)
