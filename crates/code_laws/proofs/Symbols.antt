-- words, codewords and generators as the laws say them
use Rattle.std.specs.Prelude.{ℕ, ◌≡◌, ◌<◌, List, [], ◌∷◌, length, slice_index}
use Rattle.code_spec.specs.Field.{gf_add, gf_mul, gf_pow}
use Rattle.code_spec.specs.Code.{value_of}

-- the values at 2 ^ 0 to 2 ^ (r - 1) are zero
pub record HasRoots (r : ℕ) (w : List ℕ) : Type 0 where
  pub at : (i : ℕ) → i < r → value_of w (gf_pow 2 i) ≡ 0

abbrev pub Symbols : List ℕ → Type 0
Symbols [] = Unit {0}
Symbols (c ∷ w) = (c < 256) × Symbols w

-- n is m plus f times b, symbol by symbol
pub record IsAdded (f : ℕ) (n m b : List ℕ) : Type 0 where
  pub length_m : length n ≡ length m
  pub length_b : length n ≡ length b
  pub at : (k : ℕ) → k < length n → slice_index n k ≡ gf_add (slice_index m k) (gf_mul f (slice_index b k))

-- the generator without its leading 1: at each of its roots it is the root to the power of its length
pub record IsLow (low : List ℕ) : Type 0 where
  pub at : (i : ℕ) → i < length low → value_of low (gf_pow 2 i) ≡ gf_pow (gf_pow 2 i) (length low)
