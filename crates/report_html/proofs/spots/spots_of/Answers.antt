-- Each zone is looked at with its parts
use Rattle.std.proofs.Common.{◌≡◌, ◌∙◌, List, length, get_or, ap, sym, arith, Some}
use Rattle.std.specs.Prelude.{flat_map, slice_get}
use Rattle.std.specs.List.{zip}
use Rattle.std.proofs.lemmas.List.{take_all}
use Rattle.std.proofs.lemmas.Option.{slice_get-get_or}
use Rattle.std.proofs.lemmas.Slice.Zip.{length-zip}
use Rattle.zone_spec.specs.declared.Zone.{Zone}
use Rattle.zone_spec.specs.PartStates.{PartStates}
use Rattle.report_html.specs.Spots.{zone_spots}
use Rattle.report_html.proofs.PictureZones.{no_zone}
use Rattle.report_html.proofs.DamagedSpots.{spotted}
use Rattle.report_html.proofs.spots.spots_of.Goals as goal

pub loop-i-preserved : goal.loop-i-preserved
loop-i-preserved c =
    let zones = c.args.zones.now in
    let states = c.args.states.now in
    let i = c.loop-i.i in
    let z : Zone = get_or zones i no_zone in
    let p : PartStates = c.index-states-i.result in
    let below = c.loop-i-test.true in
    let least = c.min-i-end.ensures in
    let counted : length (zip zones states) ≡ c.min-i-end.result = length-zip zones states ∙ sym least in
    let here : slice_get zones i ≡ Some z = slice_get-get_or zones i no_zone (omega (arith, below, least)) in
    let beside : slice_get states i ≡ Some p =
    slice_get-get_or states i p (omega (arith, below, least)) ∙ ap (λ (q : PartStates). Some q) (sym c.index-states-i.is) in
    spotted zones states i z p c.loop-i.spots.items c.push_zone.new.spots.items here beside
    (omega (arith, below, counted)) c.loop-i.invariant c.in_ok-push_zone.ensures

pub returns : goal.returns
returns c =
    let zones = c.args.zones.now in
    let states = c.args.states.now in
    let past = c.loop-i-test.false in
    let counted : length (zip zones states) ≡ c.min-i-end.result = length-zip zones states ∙ sym c.min-i-end.ensures in
    c.loop-i.invariant
    ∙ ap (λ (ds : List (Zone × PartStates)). flat_map zone_spots ds)
    (take_all c.loop-i.i (zip zones states) (omega (arith, past, counted)))
