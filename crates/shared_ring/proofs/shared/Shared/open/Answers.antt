-- A zone just opened stands for a history of no operation. For `Shared::open`.
use Rattle.std.proofs.Common.{◌≡◌, ℕ, List, [], get_or, sym, ap, ap₂, ◌∙◌, subst, Some}
use Rattle.std.specs.Prelude.{slice_get}
use Rattle.zone_spec.specs.declared.Zone.{Zone}
use Rattle.zone_spec.specs.Layouts.{IsLayout}
use Rattle.ramoops_layout.specs.Laid.{params_of, zones_of}
use Rattle.prz_region.specs.CutRegion.{CutRegion, cut_at}
use Rattle.shared_ring.specs.declared.seats.Seat.{Seat}
use Rattle.shared_ring.specs.Seen.{SharedSeen, IsWhole, IsLeftBy}
use Rattle.shared_ring.proofs.OpenAndClosed.{opened_whole, opened_left, zone_there, zone_read}
use Rattle.shared_ring.proofs.shared.Shared.open.Goals as goal

-- what was made is what stands for a zone that was just opened
made : (zones : List Zone) (image : List ℕ) (place : ℕ) (z d : Zone) (spans : CutRegion) (seats : List Seat)
    (taken : List ℕ)
    → slice_get zones place ≡ Some z → spans ≡ cut_at zones taken → taken ≡ image → seats ≡ []
    → (read : List Zone) → read ≡ zones
    → ◌≡◌ {A = SharedSeen} (record {
      region = cut_at zones image;
      place = place;
      zone = z;
      reserved = 0;
      seats = [];
    }) (record {
      region = spans;
      place = place;
      zone = get_or read place d;
      reserved = 0;
      seats = seats;
    })
made zones image place z d spans seats taken there cut same none read is =
    ap₂ (λ (c : CutRegion) (y : Zone). let v : SharedSeen = record {
      region = c;
      place = place;
      zone = y;
      reserved = 0;
      seats = [];
    } in v) (sym (cut ∙ ap (cut_at zones) same))
    (sym (ap (λ (zs : List Zone). get_or zs place d) is ∙ zone_read zones place z d there))
    ∙ ap (λ (xs : List Seat). let v : SharedSeen = record {
      region = spans;
      place = place;
      zone = get_or read place d;
      reserved = 0;
      seats = xs;
    } in v) (sym none)

pub invariant_of-result : goal.invariant_of-result
invariant_of-result c =
    let zones : List Zone = zones_of c.args.layout in
    let there : slice_get zones c.in-Some.place ≡ Some c.requires.zone.zone =
    zone_there zones c.args.zone c.args.image c.requires.zone c.in-Some.place (sym c.in-Some.is ∙ c.find.ensures) in
    let lies : IsLayout zones (params_of c.args.layout).mem =
    subst (λ (zs : List Zone). IsLayout zs (params_of c.args.layout).mem) c.zones.ensures.value
    c.zones.ensures.laid_out in
    let some : Unit {0} = tt in (
      c.in-Ok.ensures.capacity,
      subst IsWhole
          (made zones c.args.image c.in-Some.place c.requires.zone.zone _ c.in-Ok-cut.spans c.in-Ok.seats.items
          c.from_bytes.result there (c.in-Ok-cut.ensures {u = some})
          (c.from_bytes.ensures ∙ c.from_vec-image.ensures ∙ c.into_vec-bytes.ensures)
          c.in-Ok.ensures.items c.zones.result.now c.zones.ensures.value)
          (opened_whole zones (params_of c.args.layout).mem c.args.image lies c.in-Some.place
          c.requires.zone.zone there c.requires.zone.can),
    )

pub returns-in-Ok-cut-clause-ok : goal.returns-in-Ok-cut-clause-ok
returns-in-Ok-cut-clause-ok c = λ can.
    let zones : List Zone = zones_of c.args.layout in
    let there : slice_get zones c.in-Some.place ≡ Some can.zone =
    zone_there zones c.args.zone c.args.image can c.in-Some.place (sym c.in-Some.is ∙ c.find.ensures) in
    let lies : IsLayout zones (params_of c.args.layout).mem =
    subst (λ (zs : List Zone). IsLayout zs (params_of c.args.layout).mem) c.zones.ensures.value
    c.zones.ensures.laid_out in
    let some : Unit {0} = tt in
    subst (λ (v : SharedSeen). IsLeftBy (record { image = c.args.image; zone = can.zone; operations = [] }) v)
    (made zones c.args.image c.in-Some.place can.zone _ c.in-Ok-cut.spans c.in-Ok.seats.items
    c.from_bytes.result there (c.in-Ok-cut.ensures {u = some})
    (c.from_bytes.ensures ∙ c.from_vec-image.ensures ∙ c.into_vec-bytes.ensures)
    c.in-Ok.ensures.items c.zones.result.now c.zones.ensures.value)
    (opened_left zones (params_of c.args.layout).mem c.args.image lies c.in-Some.place can.zone there can.can)
