-- What the decoder looks for: a codeword near a word, the word that is between them, and its locator and evaluator
use Rattle.std.specs.Prelude.{ℕ, ◌≡◌, ◌+◌, ◌<◌, ◌≤◌, ◌==◌, if◌then◌else◌, List, [], ◌∷◌, length, slice_index}
use Rattle.code_spec.specs.Field.{gf_pow}
use Rattle.code_spec.specs.Code.{value_of, distance}
use Rattle.code_laws.proofs.Symbols.{Symbols, HasRoots}
use Rattle.code_laws.proofs.Words.{spots_of}
use Rattle.std.proofs.Common.{◌≢◌, suc}
use Rattle.decoder_laws.specs.Series.{scale, Bytes}
use Rattle.decoder_laws.specs.Locators.{locator, evaluator}
use Rattle.decoder_laws.specs.Polynomials.{poly}

-- how many symbols are not zero
abbrev pub weight : List ℕ → ℕ
weight [] = 0
weight (c ∷ d) = (if c == 0 then 0 else 1) + weight d

-- the values of D are the syndromes, and at most t of its symbols are not zero
pub record IsDamage (t n : ℕ) (syndromes D : List ℕ) : Type 0 where
  pub len : length D ≡ n
  pub symbols : Symbols D
  pub few : weight D ≤ t
  pub values : (k : ℕ) → k < t + t → slice_index syndromes k ≡ value_of D (gf_pow 2 k)

-- a codeword that differs from w in at most t places
pub record IsWithin (t r : ℕ) (w c : List ℕ) : Type 0 where
  pub len : length w ≡ length c
  pub symbols : Symbols c
  pub codeword : HasRoots r c
  pub near : distance w c ≤ t

-- v and r are the locator and the evaluator of D, up to the factor c
pub record IsFound (D v r : List ℕ) (c : ℕ) : Type 0 where
  pub len : length D ≤ 255
  pub symbols : Symbols D
  pub v_bytes : Bytes (poly v)
  pub r_bytes : Bytes (poly r)
  pub degree : length v ≡ suc (length (spots_of D))
  pub r_low : length r ≤ length (spots_of D)
  pub c_byte : c < 256
  pub c_some : c ≢ 0
  pub locator_is : locator (spots_of D) ≡ scale c (poly v)
  pub evaluator_is : evaluator (spots_of D) ≡ scale c (poly r)
