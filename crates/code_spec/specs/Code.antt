-- The Reed-Solomon code whose generator has the roots 2^0 .. 2^(r-1). A word is a list of bytes, the
-- highest power first
use Rattle.std.specs.Prelude.{◌≡◌, ℕ, zero, suc, ◌+◌, ◌/◌, ◌<◌, ◌≤◌, Bool, true, false, ◌&&◌, if◌then◌else◌, nat_le}
use Rattle.std.specs.Prelude.{◌==◌, IsTrue, List, [], ◌∷◌, ◌++◌, length, map, flat_map, find, Option, Some, unwrap_or}
use Rattle.std.specs.List.{range_with_len, AllByRecursion}
use Rattle.code_spec.specs.Field.{gf_add, gf_mul, gf_pow}

-- the value of a word at x
unfoldable pub value_of : List ℕ → ℕ → ℕ
value_of [] x = 0
value_of (c ∷ cs) x = gf_add (gf_mul c (gf_pow x (length cs))) (value_of cs x)

-- the values at 2^0 .. 2^(r-1) are all zero
unfoldable pub is_codeword : ℕ → List ℕ → Bool
is_codeword zero w = true
is_codeword (suc j) w = (value_of w (gf_pow 2 j) == 0) && is_codeword j w

abbrev pub IsCodeword : ℕ → List ℕ → Type 0
IsCodeword r w = IsTrue (is_codeword r w)

-- the number of places at which two words differ
unfoldable pub distance : List ℕ → List ℕ → ℕ
distance [] ws = 0
distance (v ∷ vs) [] = 0
distance (v ∷ vs) (w ∷ ws) = (if v == w then 0 else 1) + distance vs ws

-- n bytes
abbrev pub IsWord : ℕ → List ℕ → Type 0
IsWord n w = (length w ≡ n) × AllByRecursion (λ b. b < 256) w

-- all words of n bytes
unfoldable pub all_words : ℕ → List (List ℕ)
all_words zero = [] ∷ []
all_words (suc n) = flat_map (λ b. map (λ w. b ∷ w) (all_words n)) (range_with_len 0 256)

-- the word of n bytes that passes the test, where there is one (where there are more, the first). Never
-- computed
unfoldable pub the_word : ℕ → (List ℕ → Bool) → Option (List ℕ)
the_word n test = find test (all_words n)

-- a codeword within half the parity of w
unfoldable pub is_near : ℕ → List ℕ → List ℕ → Bool
is_near r w c = is_codeword r c && nat_le (distance w c) (r / 2)

-- the codeword of w's length within half the parity of it, where there is one; w itself where it is a
-- codeword
abbrev pub nearest_if : Bool → ℕ → List ℕ → Option (List ℕ)
nearest_if true r w = Some w
nearest_if false r w = the_word (length w) (is_near r w)

unfoldable pub nearest : ℕ → List ℕ → Option (List ℕ)
nearest r w = nearest_if (is_codeword r w) r w

-- c is a codeword of w's length within half the parity of it
pub record IsNear (r : ℕ) (w c : List ℕ) : Type 0 where
  pub codeword : IsTrue (is_codeword r c)
  pub within : distance w c ≤ r / 2
  pub word : IsWord (length w) c

-- the one list of r bytes that makes a codeword of m
unfoldable pub parity_of : ℕ → List ℕ → List ℕ
parity_of r m = unwrap_or (the_word r (λ p. is_codeword r (m ++ p))) []
