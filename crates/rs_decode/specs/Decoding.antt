-- What the decoder answers of a word, by its nearest codeword
use Rattle.std.specs.Prelude.{ℕ, zero, suc, ◌==◌, if◌then◌else◌, nat_le, List, [], ◌∷◌, length, Option, Some, None}
use Rattle.code_spec.specs.Field.{gf_add}
use Rattle.code_spec.specs.Code.{distance, parity_of}
use Rattle.code_laws.proofs.Symbols.{IsAdded}
use Rattle.rs_decode.specs.declared.Fix.{Fix}
use Rattle.rs_decode.specs.declared.Decoded.{Decoded}
use Rattle.rs_decode.specs.declared.Decoded.TheVariants.{Clean, Fixed, Bad}

abbrev pub decoded_at : ℕ → Decoded
decoded_at zero = Clean
decoded_at (suc n) = Fixed (suc n)

-- clean at distance 0, fixed at any other, and bad where no codeword is near
unfoldable pub decoded_by : List ℕ → Option (List ℕ) → Decoded
decoded_by w None = Bad
decoded_by w (Some c) = decoded_at (distance w c)

-- the places, from i on, at which two words differ, each with the sum of its two symbols
abbrev pub differences : ℕ → List ℕ → List ℕ → List Fix
differences i (a ∷ w) (b ∷ c) = if a == b then differences (suc i) w c else record { place = i; mask = gf_add a b }
    ∷ differences (suc i) w c
differences i w c = []

unfoldable pub fixes_by : List ℕ → Option (List ℕ) → List Fix
fixes_by w None = []
fixes_by w (Some c) = differences 0 w c

-- the codeword, where the word differs from it in at most this many places
unfoldable pub within : ℕ → List ℕ → Option (List ℕ) → Option (List ℕ)
within most w None = None
within most w (Some c) = if nat_le (distance w c) most then Some c else None

-- the sum of the parity p and that of the message m: all zero exactly where the two are a codeword
abbrev pub IsExcess : List ℕ → List ℕ → List ℕ → Type 0
IsExcess m p e = IsAdded 1 e (parity_of (length p) m) p
