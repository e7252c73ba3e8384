-- The theorems of the decoder, on words alone
use Rattle.std.specs.Prelude.{ℕ, ◌≡◌, ◌≢◌, ◌+◌, ◌-◌, ◌≤◌, ◌<◌, List, length, reverse, slice_index}
use Rattle.code_spec.specs.Field.{gf_mul, gf_pow}
use Rattle.code_spec.specs.Code.{value_of}
use Rattle.code_laws.specs.Locators.{Spot, AreSpots, power_sum}
use Rattle.code_laws.proofs.Symbols.{Symbols}
use Rattle.code_laws.proofs.Words.{word_sum}
use Rattle.decoder_laws.specs.Series.{times}
use Rattle.decoder_laws.specs.Polynomials.{poly}
use Rattle.decoder_laws.specs.Locators.{locator, evaluator}
use Rattle.decoder_laws.specs.Euclid.{IsSolution}
use Rattle.decoder_laws.specs.Chien.{at_power, powers_of, roots_of}
use Rattle.decoder_laws.specs.Forney.{gap_ratio}
use Rattle.decoder_laws.specs.Damage.{IsDamage, IsFound, IsWithin}

-- the locator times the power sums is the evaluator
abbrev pub KeyEquation : Type 0
KeyEquation = (ss : List Spot) → AreSpots ss → times (locator ss) (power_sum ss) ≡ evaluator ss

-- a codeword that differs in at most t places leaves damage with the word's syndromes
abbrev pub NearLeavesDamage : Type 0
NearLeavesDamage = (t r : ℕ) (w c s : List ℕ) → t + t ≤ r → Symbols w → IsWithin t r w c
    → ((k : ℕ) → k < t + t → slice_index s k ≡ value_of w (gf_pow 2 k)) → IsDamage t (length w) s (word_sum w c)

-- where there is damage of at most t places, Euclid's algorithm stops at its locator and its evaluator, up to a factor
abbrev pub EuclidFindsLocator : Type 0
EuclidFindsLocator = (t n : ℕ) (s v r D : List ℕ) → n ≤ 255 → length s ≡ t + t → IsSolution t (poly (reverse s)) v r
    → IsDamage t n s D → (c : ℕ) × IsFound D v r c × (gf_mul (poly v 0) c ≡ 1)

-- Chien: the powers at whose reciprocals the locator is zero are those of the places that differ
abbrev pub ChienFindsPlaces : Type 0
ChienFindsPlaces = (D v r : List ℕ) (c : ℕ) → IsFound D v r c → roots_of v (length D) ≡ powers_of D

-- Forney: the symbol of a place times its denominator is the evaluator's value at the place's reciprocal
abbrev pub ForneyFindsSymbols : Type 0
ForneyFindsSymbols = (D v r : List ℕ) (c j : ℕ) → IsFound D v r c → j < length D → at_power D j ≢ 0
    → gf_mul (at_power D j) (gap_ratio (powers_of D) j) ≡ gf_mul c (value_of r (gf_pow 2 (255 - j)))
