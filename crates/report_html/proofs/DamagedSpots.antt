-- What is not clean of one zone more, and the table of none or of some. For `spots_of` and `add_spots`.
use Rattle.std.proofs.Common.{◌≡◌, ℕ, ◌+◌, ◌<◌, List, [], ◌∷◌, ◌++◌, length, take, get_or, codes, append-nil, refl, sym}
use Rattle.std.proofs.Common.{ap, ◌∙◌, arith, Some}
use Rattle.std.specs.Prelude.{slice_get, flat_map}
use Rattle.std.specs.List.{zip}
use Rattle.std.proofs.lemmas.List.{take_more}
use Rattle.std.proofs.lemmas.List.Concat.{flat_map-append}
use Rattle.std.proofs.lemmas.Option.{get_or_from_slice_get}
use Rattle.zone_spec.specs.declared.Zone.{Zone}
use Rattle.zone_spec.specs.PartStates.{PartStates}
use Rattle.prz_read.proofs.Saves.{zip-at}
use Rattle.report_html.specs.declared.spots.Spot.{Spot}
use Rattle.report_html.specs.Pieces.{Words}
use Rattle.report_html.specs.Spots.{zone_spots, spot_parts, spots_opening, spots_parts}

pub spotted : (zones : List Zone) (states : List PartStates) (i : ℕ) (z : Zone) (p : PartStates) (old new : List Spot)
    → slice_get zones i ≡ Some z → slice_get states i ≡ Some p → i < length (zip zones states)
    → old ≡ flat_map zone_spots (take i (zip zones states)) → new ≡ old ++ zone_spots (z, p)
    → new ≡ flat_map zone_spots (take (i + 1) (zip zones states))
spotted zones states i z p old new here beside lt was added =
    let all : List (Zone × PartStates) = zip zones states in
    let d : Zone × PartStates = (z, p) in
    let own : List Spot = zone_spots d in
    let at : get_or all i d ≡ d = get_or_from_slice_get all i d d (zip-at zones states i z p here beside) in
    let more : take (i + 1) all ≡ take i all ++ d ∷ [] =
    take_more all i d lt ∙ ap (λ (e : Zone × PartStates). take i all ++ e ∷ []) at in
    added ∙ ap (λ (ss : List Spot). ss ++ own) was
    ∙ ap (λ (ss : List Spot). flat_map zone_spots (take i all) ++ ss) (sym (append-nil own))
    ∙ sym (ap (λ (ds : List (Zone × PartStates)). flat_map zone_spots ds) more
    ∙ flat_map-append zone_spots (take i all) (d ∷ []))

pub none-shown : (spots : List Spot) → length spots ≡ 0
    → spots_parts spots ≡ Words (codes "<p class=\"note\">All headers and blocks in use are clean.</p>\n") ∷ []
none-shown [] e = refl
none-shown (s ∷ ss) e = absurd (omega (arith, e))

pub some-shown : (spots : List Spot) → 0 < length spots
    → spots_parts spots ≡ spots_opening (length spots) ++ flat_map spot_parts spots
    ++ Words (codes "</table></div>\n</details>\n") ∷ []
some-shown [] h = absurd (omega (arith, h))
some-shown (s ∷ ss) h = refl
