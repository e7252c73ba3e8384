-- Whether a text decodes
use Rattle.std.proofs.Common.{◌≡◌, ℕ, ◌%◌, ◌==◌, Bool, true, false, List, length, Some, None, Result, Ok, Err, refl}
use Rattle.std.proofs.Common.{ap, ◌∙◌, arith}
use Rattle.std.specs.Prelude.{if◌then◌else◌}
use Rattle.std.specs.List.{list_all}
use Rattle.std.proofs.lemmas.Bool.{both_ways}
use Rattle.std.proofs.lemmas.List.Sums.{list_all-from_AllPass}
use Rattle.hex.specs.Hex.{is_hex_digit, decode_pairs, decode_of}
use Rattle.hex.specs.declared.error.FromHexError.{FromHexError}
use Rattle.hex.specs.declared.error.FromHexError.TheVariants.{OddLength}
use Rattle.hex.proofs.HexLemmas.{decode_of-ok}
use Rattle.grammar_spec.specs.Fields.{decoded}

-- the bytes of an even number of digits
pub decoded_is : (s bytes : List ℕ) → length s % 2 ≡ 0 → decode_pairs 0 s ≡ Ok bytes
    → decoded (decode_of s) ≡ Some bytes
decoded_is s bytes even h =
    let e : (length s % 2 == 1) ≡ false = grind (arith, even) in
    ap (λ (b : Bool). decoded (if b then Err OddLength else decode_pairs 0 s)) e ∙ ap decoded h

none_of : (s : List ℕ) (r : Result (List ℕ) FromHexError) → decode_of s ≡ r → list_all is_hex_digit s ≡ false
    → decoded r ≡ None
none_of s (Ok bytes) e bad =
    absurd (both_ways _ bad (list_all-from_AllPass is_hex_digit s (decode_of-ok s bytes e).1))
none_of s (Err fault) e bad = refl

-- with a byte that is no digit
pub decoded_none : (s : List ℕ) → list_all is_hex_digit s ≡ false → decoded (decode_of s) ≡ None
decoded_none s bad = none_of s (decode_of s) refl bad

pub decoded_odd : (s : List ℕ) → length s % 2 ≡ 1 → decoded (decode_of s) ≡ None
decoded_odd s odd =
    let e : (length s % 2 == 1) ≡ true = grind (arith, odd) in
    ap (λ (b : Bool). decoded (if b then Err OddLength else decode_pairs 0 s)) e
