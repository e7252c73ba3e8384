-- Records one after another, in groups. For the loop of `add_each`.
use Rattle.std.proofs.Common.{◌≡◌, ℕ, ◌+◌, ◌<◌, ◌≤◌, Bool, List, ◌∷◌, ◌++◌, length, drop, get_or, Option, None, ap, ap₂, sym}
use Rattle.std.proofs.Common.{◌∙◌, append_assoc}
use Rattle.std.proofs.lemmas.List.{at_drop_more, at_drop_all}
use Rattle.std.specs.Option.{is_some}
use Rattle.zone_spec.specs.declared.Name.{Name}
use Rattle.zone_spec.specs.Records.{Saved}
use Rattle.report_spec.specs.Packed.{RecordShown}
use Rattle.report_html.specs.Pieces.{Part}
use Rattle.report_html.specs.Listed.{is_unfolded, is_teller}
use Rattle.report_html.specs.Groups.{group_in, edge_parts}
use Rattle.report_html.specs.Pages.{record_parts, listed_parts, records_after}
use Rattle.report_html.proofs.PartSums.{joined}

-- one record more
pub listed_on : (zones : List Saved) (grouped : Bool) (number before group : Option ℕ) (teller : Option Name)
    (opens is_open tells : Bool) (rs : List RecordShown) (i : ℕ)
    (r : RecordShown) (old p p1 p2 : List Part) → i < length rs → r ≡ get_or rs i r
    → p ++ records_after zones grouped number teller i before (drop i rs)
    ≡ old ++ records_after zones grouped number teller 0 None rs
    → group ≡ group_in grouped i r.name → opens ≡ is_some number → is_open ≡ is_unfolded number r.name
    → tells ≡ is_teller teller r.name
    → p1 ≡ p ++ edge_parts opens before group → p2 ≡ p1 ++ record_parts zones is_open tells r
    → p2 ++ records_after zones grouped number teller (i + 1) group (drop (i + 1) rs)
    ≡ old ++ records_after zones grouped number teller 0 None rs
unfolding records_after
listed_on zones grouped number before group teller opens is_open tells rs i r old p p1 p2 below is inv grouping open_is opened told edged added =
    let here : Option ℕ = group_in grouped i r.name in
    let e : List Part = edge_parts (is_some number) before here in
    let l : List Part = listed_parts zones number teller r in
    let rest : List Part = records_after zones grouped number teller (i + 1) here (drop (i + 1) rs) in
    let edge : p1 ≡ p ++ e =
    edged ∙ ap₂ (λ (t : Bool) (g : Option ℕ). p ++ edge_parts t before g) open_is grouping in
    let record_added : p2 ≡ p1 ++ l = added ∙ ap₂ (λ (o t : Bool). p1 ++ record_parts zones o t r) opened told in
    ap (λ (g : Option ℕ). p2 ++ records_after zones grouped number teller (i + 1) g (drop (i + 1) rs)) grouping
    ∙ ap (λ (ps : List Part). ps ++ rest) (joined p e l p1 p2 edge record_added)
    ∙ append_assoc p (e ++ l) rest
    ∙ ap (λ (ps : List Part). p ++ ps)
    (sym (at_drop_more (records_after zones grouped number teller i before) rs i r below
    ∙ ap (λ (q : RecordShown). records_after zones grouped number teller i before (q ∷ drop (i + 1) rs)) (sym is)))
    ∙ inv

-- the last group ends
pub listed_all : (zones : List Saved) (grouped : Bool) (number before : Option ℕ) (teller : Option Name) (opens : Bool)
    (rs : List RecordShown) (i : ℕ) (old p p1 : List Part) → length rs ≤ i
    → p ++ records_after zones grouped number teller i before (drop i rs)
    ≡ old ++ records_after zones grouped number teller 0 None rs → opens ≡ is_some number
    → p1 ≡ p ++ edge_parts opens before None → p1 ≡ old ++ records_after zones grouped number teller 0 None rs
unfolding records_after
listed_all zones grouped number before teller opens rs i old p p1 past inv open_is edged =
    edged ∙ ap (λ (t : Bool). p ++ edge_parts t before None) open_is
    ∙ ap (λ (ps : List Part). p ++ ps) (sym (at_drop_all (records_after zones grouped number teller i before) rs i past))
    ∙ inv
