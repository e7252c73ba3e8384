-- The rows of the table are the bytes escaped
use Rattle.std.proofs.Common.{◌≡◌, ℕ, ◌<◌, ◌≤◌, Bool, true, nat_le, List, [], map, get_or, take, refl, sym, ap}
use Rattle.std.proofs.Common.{◌∙◌, arith}
use Rattle.std.specs.Int.{to_le_bytes, w64}
use Rattle.std.specs.List.{range_with_len}
use Rattle.std.proofs.lemmas.Bool.Decides.{nat_tests}
use Rattle.std.proofs.lemmas.List.{get_or-map}
use Rattle.std.proofs.lemmas.List.FromFn.{get_or-map-range_with_len}
use Rattle.report_spec.specs.Escaped.{escaped_byte}
use Rattle.report_html.specs.declared.byte_rows.TheConstants.{ROWS}

-- the count and the text of a row
abbrev pub count_of : ℕ → ℕ
count_of row = get_or (to_le_bytes w64 row) 7 0

abbrev pub text_of : ℕ → List ℕ
text_of row = take (count_of row) (to_le_bytes w64 row)

texts-test : map text_of ROWS ≡ map escaped_byte (range_with_len 0 256)
texts-test = refl

pub row-text : (b : ℕ) → b < 256 → text_of (get_or ROWS b 0) ≡ escaped_byte b
row-text b h =
    sym (get_or-map text_of ROWS b 0 [] h)
    ∙ ap (λ (texts : List (List ℕ)). get_or texts b []) texts-test
    ∙ get_or-map-range_with_len escaped_byte 0 256 b b [] h (omega arith)

abbrev is_short : ℕ → Bool
is_short row = nat_le (count_of row) 6

lens-test : map is_short ROWS ≡ map (λ (b : ℕ). true) (range_with_len 0 256)
lens-test = refl

pub row-len : (b : ℕ) → b < 256 → count_of (get_or ROWS b 0) ≤ 6
row-len b h =
    let e : is_short (get_or ROWS b 0) ≡ true =
    sym (get_or-map is_short ROWS b 0 true h)
    ∙ ap (λ (tests : List Bool). get_or tests b true) lens-test
    ∙ get_or-map-range_with_len (λ (k : ℕ). true) 0 256 b b true h (omega arith) in
    grind (arith, nat_tests, e)
