-- The rows of causes, one after the other
use Rattle.std.proofs.Common.{◌≡◌, ℕ, ◌+◌, ◌≤◌, ◌<◌, true, false, cond, List, length, drop, get_or, Bor, ap, ◌∙◌}
use Rattle.std.specs.Prelude.{Some, None}
use Rattle.std.proofs.lemmas.List.{drop_all, drop_more}
use Rattle.death_spec.specs.declared.Cause.{Cause}
use Rattle.death_spec.specs.Causes.{stand_in, cause_in}
use Rattle.death.specs.Rows.{plain}

-- a row whose words stand in the text decides
pub row_yes : (rows : List (Cause × Bor (List ℕ))) (text : List ℕ) (i : ℕ) (d : Cause × Bor (List ℕ))
    → i < length rows → stand_in (get_or rows i d).1.now text ≡ true
    → cause_in (plain (drop i rows)) text ≡ Some (get_or rows i d).0
unfolding cause_in
row_yes rows text i d inside e =
    ap (λ rs. cause_in (plain rs) text) (drop_more rows i d inside)
    ∙ ap (λ t. cond t (Some (get_or rows i d).0) (cause_in (plain (drop (i + 1) rows)) text)) e

-- any other leaves it to the rest
pub row_no : (rows : List (Cause × Bor (List ℕ))) (text : List ℕ) (i : ℕ) (d : Cause × Bor (List ℕ))
    → i < length rows → stand_in (get_or rows i d).1.now text ≡ false
    → cause_in (plain (drop i rows)) text ≡ cause_in (plain (drop (i + 1) rows)) text
unfolding cause_in
row_no rows text i d inside e =
    ap (λ rs. cause_in (plain rs) text) (drop_more rows i d inside)
    ∙ ap (λ t. cond t (Some (get_or rows i d).0) (cause_in (plain (drop (i + 1) rows)) text)) e

pub row_none : (rows : List (Cause × Bor (List ℕ))) (text : List ℕ) (i : ℕ) → length rows ≤ i
    → cause_in (plain (drop i rows)) text ≡ None
unfolding cause_in
row_none rows text i past = ap (λ rs. cause_in (plain rs) text) (drop_all i rows past)
