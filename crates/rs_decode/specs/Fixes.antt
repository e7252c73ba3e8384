-- The words of the decoder's own functions: lists of fixes, and what they make of a word
use Rattle.std.specs.Prelude.{ℕ, suc, ◌≡◌, ◌+◌, ◌-◌, ◌<◌, ◌==◌, if◌then◌else◌, List, [], ◌∷◌, length, slice_index}
use Rattle.std.specs.Prelude.{slice_set}
use Rattle.code_spec.specs.Field.{gf_add, gf_mul, gf_pow}
use Rattle.code_spec.specs.Code.{value_of}
pub use Rattle.code_laws.proofs.Symbols.{Symbols}
use Rattle.code_laws.proofs.Words.{word_sum}
use Rattle.decoder_laws.specs.Forney.{gap_ratio}
use Rattle.rs_decode.specs.declared.Fix.{Fix}

-- the mask times the product of the gaps is the scaled value of the evaluator
pub record IsFix (n c : ℕ) (r all : List ℕ) (p : ℕ) (f : Fix) : Type 0 where
  pub place : f.place + p + 1 ≡ n
  pub mask_byte : f.mask < 256
  pub mask : gf_mul f.mask (gap_ratio all p) ≡ gf_mul c (value_of r (gf_pow 2 (255 - p)))

abbrev pub AreFixes : ℕ → ℕ → List ℕ → List ℕ → List ℕ → List Fix → Type 0
AreFixes n c r all [] [] = Unit {0}
AreFixes n c r all (p ∷ ps) (f ∷ fs) = IsFix n c r all p f × AreFixes n c r all ps fs
AreFixes n c r all ps fs = Unit {0} → ⊥

abbrev pub AllInside : ℕ → List Fix → Type 0
AllInside n [] = Unit {0}
AllInside n (f ∷ fs) = (f.place < n) × (f.mask < 256) × AllInside n fs

-- the places of a word of n symbols that are not zero, with their symbols; the list is its last part
abbrev pub fixes_from : ℕ → List ℕ → List Fix
fixes_from n [] = []
fixes_from n (c ∷ d) = if c == 0 then fixes_from n d else record { place = n - 1 - length d; mask = c } ∷ fixes_from n d

-- a word with the fixes added
abbrev pub applied : List Fix → List ℕ → List ℕ
applied [] w = w
applied (f ∷ fs) w = applied fs (slice_set w f.place (gf_add (slice_index w f.place) f.mask))

-- what the fixes of a word of n symbols add to its value at x
abbrev pub fix_sum : ℕ → List Fix → ℕ → ℕ
fix_sum n [] x = 0
fix_sum n (f ∷ fs) x = gf_add (gf_mul f.mask (gf_pow x (n - 1 - f.place))) (fix_sum n fs x)

-- the differing places with their masks
abbrev pub fixes_between : List ℕ → List ℕ → List Fix
fixes_between w c = fixes_from (length w) (word_sum w c)

-- the values of v at the reciprocals of the powers below n, from the highest on, as far as they go
pub record AreValues (v : List ℕ) (n : ℕ) (values : List ℕ) : Type 0 where
  pub at : (k m : ℕ) → k < length values → k + suc m ≡ n → slice_index values k ≡ value_of v (gf_pow 2 (255 - m))
