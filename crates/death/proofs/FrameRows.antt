-- The rows of frames, one after the other
use Rattle.std.proofs.Common.{◌≡◌, ℕ, ◌+◌, ◌≤◌, ◌<◌, ◌&&◌, Bool, true, false, cond, List, length, drop, get_or, Bor, ap}
use Rattle.std.proofs.Common.{◌∙◌}
use Rattle.std.proofs.lemmas.List.{drop_all, drop_more}
use Rattle.death_spec.specs.declared.Way.{Way}
use Rattle.death_spec.specs.Traces.{counts, fits, is_passed}
use Rattle.death.specs.Rows.{plain}

-- a row that counts and fits decides
pub row_yes : (rows : List (Way × Bor (List ℕ))) (hangs : Bool) (name : List ℕ) (i : ℕ) (d : Way × Bor (List ℕ))
    → i < length rows → (counts hangs (get_or rows i d).0 && fits (get_or rows i d).1.now name) ≡ true
    → is_passed (plain (drop i rows)) hangs name ≡ true
unfolding is_passed
row_yes rows hangs name i d inside e =
    ap (λ rs. is_passed (plain rs) hangs name) (drop_more rows i d inside)
    ∙ ap (λ t. cond t true (is_passed (plain (drop (i + 1) rows)) hangs name)) e

-- any other leaves it to the rest
pub row_no : (rows : List (Way × Bor (List ℕ))) (hangs : Bool) (name : List ℕ) (i : ℕ) (d : Way × Bor (List ℕ))
    → i < length rows → (counts hangs (get_or rows i d).0 && fits (get_or rows i d).1.now name) ≡ false
    → is_passed (plain (drop i rows)) hangs name ≡ is_passed (plain (drop (i + 1) rows)) hangs name
unfolding is_passed
row_no rows hangs name i d inside e =
    ap (λ rs. is_passed (plain rs) hangs name) (drop_more rows i d inside)
    ∙ ap (λ t. cond t true (is_passed (plain (drop (i + 1) rows)) hangs name)) e

pub row_none : (rows : List (Way × Bor (List ℕ))) (hangs : Bool) (name : List ℕ) (i : ℕ) → length rows ≤ i
    → is_passed (plain (drop i rows)) hangs name ≡ false
unfolding is_passed
row_none rows hangs name i past = ap (λ rs. is_passed (plain rs) hangs name) (drop_all i rows past)
