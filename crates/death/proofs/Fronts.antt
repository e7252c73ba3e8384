-- The rows of words, one after the other
use Rattle.std.proofs.Common.{◌≡◌, ℕ, ◌+◌, ◌≤◌, ◌<◌, nat_eq, true, false, cond, List, length, drop, get_or, Bor, ap}
use Rattle.std.proofs.Common.{◌∙◌}
use Rattle.std.specs.Prelude.{Some, None}
use Rattle.std.specs.List.{starts_with}
use Rattle.std.proofs.lemmas.List.{drop_all, drop_more}
use Rattle.death_spec.specs.declared.Mark.{Mark}
use Rattle.death_spec.specs.Marks.{front_in}
use Rattle.death.specs.Rows.{plain}

-- a row that fits decides
pub row_yes : (rows : List (Mark × Bor (List ℕ))) (text : List ℕ) (i : ℕ) (d : Mark × Bor (List ℕ)) → i < length rows
    → starts_with nat_eq text (get_or rows i d).1.now ≡ true
    → front_in (plain (drop i rows)) text ≡ Some ((get_or rows i d).0, length (get_or rows i d).1.now)
unfolding front_in
row_yes rows text i d inside e =
    ap (λ rs. front_in (plain rs) text) (drop_more rows i d inside)
    ∙ ap (λ t. cond t (Some ((get_or rows i d).0, length (get_or rows i d).1.now))
    (front_in (plain (drop (i + 1) rows)) text)) e

-- any other leaves it to the rest
pub row_no : (rows : List (Mark × Bor (List ℕ))) (text : List ℕ) (i : ℕ) (d : Mark × Bor (List ℕ)) → i < length rows
    → starts_with nat_eq text (get_or rows i d).1.now ≡ false
    → front_in (plain (drop i rows)) text ≡ front_in (plain (drop (i + 1) rows)) text
unfolding front_in
row_no rows text i d inside e =
    ap (λ rs. front_in (plain rs) text) (drop_more rows i d inside)
    ∙ ap (λ t. cond t (Some ((get_or rows i d).0, length (get_or rows i d).1.now))
    (front_in (plain (drop (i + 1) rows)) text)) e

pub row_none : (rows : List (Mark × Bor (List ℕ))) (text : List ℕ) (i : ℕ) → length rows ≤ i
    → front_in (plain (drop i rows)) text ≡ None
unfolding front_in
row_none rows text i past = ap (λ rs. front_in (plain rs) text) (drop_all i rows past)
