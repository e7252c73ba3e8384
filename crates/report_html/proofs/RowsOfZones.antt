-- The rows of a table of zones, one zone after another. For the loop of `add_rows`.
use Rattle.std.proofs.Common.{◌≡◌, ℕ, ◌+◌, ◌<◌, ◌≤◌, List, ◌∷◌, ◌++◌, length, drop, get_or, Option, Some, None, ap, sym}
use Rattle.std.proofs.Common.{◌∙◌, append_assoc}
use Rattle.std.specs.Prelude.{slice_get}
use Rattle.std.proofs.lemmas.List.{at_drop_more, at_drop_all}
use Rattle.std.proofs.lemmas.Option.{get_or_from_slice_get}
use Rattle.zone_spec.specs.Records.{Saved}
use Rattle.zone_spec.specs.PartStates.{PartStates}
use Rattle.report_html.specs.Pieces.{Part}
use Rattle.report_html.specs.ZoneRows.{ZoneRow, next_row, held_parts, done_parts, rows_after}

-- one zone more
pub row_on : (all : List (Saved × PartStates)) (i : ℕ) (d : Saved × PartStates) (held : Option ZoneRow)
    (old p p1 : List Part) → i < length all → slice_get all i ≡ Some d
    → p ++ rows_after held (drop i all) ≡ old ++ rows_after None all → p1 ≡ p ++ done_parts held d
    → p1 ++ rows_after (Some (next_row held d)) (drop (i + 1) all) ≡ old ++ rows_after None all
unfolding rows_after
row_on all i d held old p p1 below here inv done =
    let rest : List Part = rows_after (Some (next_row held d)) (drop (i + 1) all) in
    let own : get_or all i d ≡ d = get_or_from_slice_get all i d d here in
    ap (λ (ps : List Part). ps ++ rest) done ∙ append_assoc p (done_parts held d) rest
    ∙ ap (λ (ps : List Part). p ++ ps)
    (sym (at_drop_more (rows_after held) all i d below
    ∙ ap (λ (e : Saved × PartStates). rows_after held (e ∷ drop (i + 1) all)) own))
    ∙ inv

-- the last row
pub row_all : (all : List (Saved × PartStates)) (i : ℕ) (held : Option ZoneRow) (old p p1 : List Part)
    → length all ≤ i → p ++ rows_after held (drop i all) ≡ old ++ rows_after None all → p1 ≡ p ++ held_parts held
    → p1 ≡ old ++ rows_after None all
unfolding rows_after
row_all all i held old p p1 past inv done =
    done ∙ ap (λ (ps : List Part). p ++ ps) (sym (at_drop_all (rows_after held) all i past)) ∙ inv
