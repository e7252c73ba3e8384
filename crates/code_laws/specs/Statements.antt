-- The laws of the code
use Rattle.std.specs.Prelude.{ℕ, ◌≡◌, ◌≢◌, ◌↔◌, ◌+◌, ◌/◌, ◌<◌, ◌≤◌, List, ◌++◌, length, Some}
use Rattle.code_spec.specs.Field.{gf_mul}
use Rattle.code_spec.specs.Code.{IsWord, IsCodeword, distance, nearest, parity_of}
use Rattle.code_laws.specs.Shifts.{mul_bits}
use Rattle.code_laws.specs.Toward.{IsToward, StandsFor}

-- the product is that by shifts
abbrev pub ProductByShifts : Type 0
ProductByShifts = (a b : ℕ) → a < 256 → b < 256 → mul_bits a b 8 ≡ gf_mul a b

-- two different codewords of one length, at most 255, differ in at least r + 1 places
abbrev pub LawOfDistance : Type 0
LawOfDistance = (r n : ℕ) (c d : List ℕ) → n ≤ 255 → IsWord n c → IsWord n d → IsCodeword r c → IsCodeword r d → c ≢ d
    → r + 1 ≤ distance c d

-- nearest gives a codeword of the word's length within half the parity, it is the only one, and where
-- there is one nearest gives it
abbrev pub NearestIs : Type 0
NearestIs = (r : ℕ) (w c : List ℕ) → length w ≤ 255 → IsWord (length w) w
    → (nearest r w ≡ Some c) ↔ (IsWord (length w) c × IsCodeword r c × (distance w c ≤ r / 2))

-- parity is there, and is the one list of r bytes that makes a codeword
abbrev pub ParityIs : Type 0
ParityIs = (r : ℕ) (m p : List ℕ) → length m + r ≤ 255 → IsWord (length m) m
    → (parity_of r m ≡ p) ↔ (IsWord r p × IsCodeword r (m ++ p))

-- a word some of whose bytes went over to its nearest codeword keeps that codeword
abbrev pub TowardTheNearest : Type 0
TowardTheNearest = (r : ℕ) (w v : List ℕ) → length w ≤ 255 → IsWord (length w) w → IsWord (length w) v
    → IsToward r w v → StandsFor r w v
