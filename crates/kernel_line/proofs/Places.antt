-- The first place at which a byte passes
use Rattle.std.proofs.Common.{◌≡◌, ℕ, ◌≤◌, Bool, true, false, not, List, length, Option, Some, None, unwrap_or, nat_lt}
use Rattle.std.proofs.Common.{cond, refl, arith}
use Rattle.std.proofs.lemmas.Grind.{common_steps}
use Rattle.std.proofs.lemmas.List.Sums.{prefix_len-le-length}
use Rattle.std.specs.List.{position, position_or_len}

pub place_within : {X : Type 0} (p : X → Bool) (xs : List X) → position_or_len p xs ≤ length xs
place_within p xs = prefix_len-le-length (λ x. not (p x)) xs

-- the place, or the length where there is none
pub place_or_len : {X : Type 0} (p : X → Bool) (xs : List X)
    → unwrap_or (position p xs) (length xs) ≡ position_or_len p xs
place_or_len p xs = by (nat_lt (position_or_len p xs) (length xs)) refl
  where
    place : ℕ
    place = position_or_len p xs

    by : (b : Bool) → nat_lt place (length xs) ≡ b → unwrap_or (cond b (Some place) None) (length xs) ≡ place
    by true e = refl
    by false e = grind (arith, common_steps, place_within p xs)
