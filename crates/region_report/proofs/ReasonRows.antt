-- The rows of reasons, one after the other
use Rattle.std.proofs.Common.{◌≡◌, ℕ, ◌+◌, ◌≤◌, ◌<◌, nat_eq, true, false, cond, List, length, drop, get_or, Bor, ap, Some, None, ◌∙◌}
use Rattle.std.specs.List.{starts_with}
use Rattle.std.proofs.lemmas.List.{drop_all, drop_more}
use Rattle.report_spec.specs.declared.DumpReason.{DumpReason}
use Rattle.report_spec.specs.Ends.{reason_in}
use Rattle.region_report.specs.Tellers.{plain}

-- a row that fits decides
pub row_yes : (rows : List (DumpReason × Bor (List ℕ))) (text : List ℕ) (i : ℕ) (d : DumpReason × Bor (List ℕ))
    → i < length rows → starts_with nat_eq text (get_or rows i d).1.now ≡ true
    → reason_in (plain (drop i rows)) text ≡ Some (get_or rows i d).0
unfolding reason_in
row_yes rows text i d inside e =
    ap (λ rs. reason_in (plain rs) text) (drop_more rows i d inside)
    ∙ ap (λ t. cond t (Some (get_or rows i d).0) (reason_in (plain (drop (i + 1) rows)) text)) e

-- any other leaves it to the rest
pub row_no : (rows : List (DumpReason × Bor (List ℕ))) (text : List ℕ) (i : ℕ) (d : DumpReason × Bor (List ℕ))
    → i < length rows → starts_with nat_eq text (get_or rows i d).1.now ≡ false
    → reason_in (plain (drop i rows)) text ≡ reason_in (plain (drop (i + 1) rows)) text
unfolding reason_in
row_no rows text i d inside e =
    ap (λ rs. reason_in (plain rs) text) (drop_more rows i d inside)
    ∙ ap (λ t. cond t (Some (get_or rows i d).0) (reason_in (plain (drop (i + 1) rows)) text)) e

pub row_none : (rows : List (DumpReason × Bor (List ℕ))) (text : List ℕ) (i : ℕ) → length rows ≤ i
    → reason_in (plain (drop i rows)) text ≡ None
unfolding reason_in
row_none rows text i past = ap (λ rs. reason_in (plain rs) text) (drop_all i rows past)
