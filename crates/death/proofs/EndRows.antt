-- The rows of ends, one after the other
use Rattle.std.proofs.Common.{◌≡◌, ℕ, ◌+◌, ◌≤◌, ◌<◌, nat_eq, true, false, cond, List, length, drop, get_or, Bor, ap, ◌∙◌}
use Rattle.std.specs.List.{starts_with}
use Rattle.std.proofs.lemmas.List.{drop_all, drop_more}
use Rattle.death_spec.specs.declared.Ending.{Ending}
use Rattle.death_spec.specs.declared.Ending.TheVariants.{BrokenOff}
use Rattle.death_spec.specs.Endings.{ending_in}
use Rattle.death.specs.Rows.{plain}

-- a row that fits decides
pub row_yes : (rows : List (Ending × Bor (List ℕ))) (text : List ℕ) (i : ℕ) (d : Ending × Bor (List ℕ))
    → i < length rows → starts_with nat_eq text (get_or rows i d).1.now ≡ true
    → ending_in (plain (drop i rows)) text ≡ (get_or rows i d).0
unfolding ending_in
row_yes rows text i d inside e =
    ap (λ rs. ending_in (plain rs) text) (drop_more rows i d inside)
    ∙ ap (λ t. cond t (get_or rows i d).0 (ending_in (plain (drop (i + 1) rows)) text)) e

-- any other leaves it to the rest
pub row_no : (rows : List (Ending × Bor (List ℕ))) (text : List ℕ) (i : ℕ) (d : Ending × Bor (List ℕ))
    → i < length rows → starts_with nat_eq text (get_or rows i d).1.now ≡ false
    → ending_in (plain (drop i rows)) text ≡ ending_in (plain (drop (i + 1) rows)) text
unfolding ending_in
row_no rows text i d inside e =
    ap (λ rs. ending_in (plain rs) text) (drop_more rows i d inside)
    ∙ ap (λ t. cond t (get_or rows i d).0 (ending_in (plain (drop (i + 1) rows)) text)) e

pub row_none : (rows : List (Ending × Bor (List ℕ))) (text : List ℕ) (i : ℕ) → length rows ≤ i
    → ending_in (plain (drop i rows)) text ≡ BrokenOff
unfolding ending_in
row_none rows text i past = ap (λ rs. ending_in (plain rs) text) (drop_all i rows past)
