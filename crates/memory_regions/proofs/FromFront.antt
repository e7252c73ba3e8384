-- The pages of a memory from its front on. For `readings`.
use Rattle.std.proofs.Common.{◌≡◌, ℕ, ◌+◌, List, [], ◌∷◌, map, refl, ap₂, zero-add}

pub from_front : (xs : List ℕ) → map (λ page. 0 + page) xs ≡ xs
from_front [] = refl
from_front (x ∷ xs) = ap₂ ◌∷◌ (zero-add x) (from_front xs)
