-- The rows of magic bytes, one after the other
use Rattle.std.proofs.Common.{◌≡◌, ℕ, ◌+◌, ◌≤◌, ◌<◌, nat_eq, true, false, cond, List, length, drop, get_or, Bor, ap}
use Rattle.std.proofs.Common.{◌∙◌}
use Rattle.std.specs.Prelude.{Some, None}
use Rattle.std.specs.List.{starts_with}
use Rattle.std.proofs.lemmas.List.{drop_all, drop_more}
use Rattle.compression_spec.specs.declared.Compression.{Compression}
use Rattle.compression_spec.specs.Magics.{first_row}
use Rattle.compression.specs.Rows.{plain}

-- a row that fits decides
pub row_yes : (rows : List (Compression × Bor (List ℕ))) (text : List ℕ) (i : ℕ) (d : Compression × Bor (List ℕ))
    → i < length rows
    → starts_with nat_eq text (get_or rows i d).1.now ≡ true
    → first_row (plain (drop i rows)) text ≡ Some (get_or rows i d).0
unfolding first_row
row_yes rows text i d inside e =
    ap (λ rs. first_row (plain rs) text) (drop_more rows i d inside)
    ∙ ap (λ t. cond t (Some (get_or rows i d).0)
    (first_row (plain (drop (i + 1) rows)) text)) e

-- any other leaves it to the rest
pub row_no : (rows : List (Compression × Bor (List ℕ))) (text : List ℕ) (i : ℕ) (d : Compression × Bor (List ℕ))
    → i < length rows
    → starts_with nat_eq text (get_or rows i d).1.now ≡ false
    → first_row (plain (drop i rows)) text ≡ first_row (plain (drop (i + 1) rows)) text
unfolding first_row
row_no rows text i d inside e =
    ap (λ rs. first_row (plain rs) text) (drop_more rows i d inside)
    ∙ ap (λ t. cond t (Some (get_or rows i d).0)
    (first_row (plain (drop (i + 1) rows)) text)) e

pub row_none : (rows : List (Compression × Bor (List ℕ))) (text : List ℕ) (i : ℕ) → length rows ≤ i
    → first_row (plain (drop i rows)) text ≡ None
unfolding first_row
row_none rows text i past = ap (λ rs. first_row (plain rs) text) (drop_all i rows past)
