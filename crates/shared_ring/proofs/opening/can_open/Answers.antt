-- The zone of the name is valid and lies in the image, so its words can be read. For `can_open`.
use Rattle.std.proofs.Common.{◌≡◌, ℕ, ◌+◌, ◌≤◌, List, length, get_or, sym, ap, ◌∙◌, subst, Some}
use Rattle.std.specs.Prelude.{slice_get, IsTrue, ◌↔◌}
use Rattle.zone_spec.specs.declared.Kind.TheVariants.{Dump}
use Rattle.zone_spec.specs.declared.Zone.{Zone}
use Rattle.zone_spec.specs.Layouts.{zone_place}
use Rattle.ramoops_layout.specs.Laid.{params_of, zones_of}
use Rattle.machine_spec.specs.Zones.{zone_bytes}
use Rattle.shared_spec.specs.Machine.{CanShare}
use Rattle.shared_ring.proofs.Shareable.{lies_in, opens, shares_opened, zone_got}
use Rattle.shared_ring.proofs.opening.can_open.Goals as goal
use Rattle.zone_spec.specs.declared.params.ByteOrder.TheVariants.{Little}

-- what is read past the end
abbrev blank : Zone
blank = record {
  name = record { kind = Dump; index = 0 };
  at = 0;
  size = 0;
  cap = 0;
  blocks = 0;
  parity = 0;
  sig = 0;
  block = 0;
  byte_order = Little;
}

pub can_share-requires-clause-valid : goal.can_share-requires-clause-valid
can_share-requires-clause-valid c =
    let zones : List Zone = c.zones.result.now in
    let place : Some c.in-Some.place ≡ zone_place zones c.args.name = sym c.in-Some.is ∙ c.find.ensures
    ∙ ap (λ (zs : List Zone). zone_place zs c.args.name) (sym c.zones.ensures.value) in
    (lies_in zones (params_of c.args.layout.now).mem c.in-Some.place (get_or zones c.in-Some.place blank)
    c.zones.ensures.laid_out (zone_got zones c.args.name c.in-Some.place blank place)).0

pub can_share-requires-clause-within : goal.can_share-requires-clause-within
can_share-requires-clause-within c =
    let zones : List Zone = c.zones.result.now in
    let place : Some c.in-Some.place ≡ zone_place zones c.args.name = sym c.in-Some.is ∙ c.find.ensures
    ∙ ap (λ (zs : List Zone). zone_place zs c.args.name) (sym c.zones.ensures.value) in
    let z : Zone = get_or zones c.in-Some.place blank in
    subst (λ n. z.at + z.size ≤ n) (sym (ap length c.as_slice.ensures ∙ c.requires))
    (lies_in zones (params_of c.args.layout.now).mem c.in-Some.place z
    c.zones.ensures.laid_out (zone_got zones c.args.name c.in-Some.place blank place)).1

pub returns-in-Some : goal.returns-in-Some
returns-in-Some c =
    let zones : List Zone = zones_of c.args.layout.now in
    let z : Zone = get_or zones c.in-Some.place blank in
    let place : Some c.in-Some.place ≡ zone_place zones c.args.name = sym c.in-Some.is ∙ c.find.ensures in
    let there : slice_get zones c.in-Some.place ≡ Some z = zone_got zones c.args.name c.in-Some.place blank place in
    let same : get_or c.zones.result.now c.in-Some.place blank ≡ z =
    ap (λ (zs : List Zone). get_or zs c.in-Some.place blank) c.zones.ensures.value in
    let bytes : c.as_slice.result.now ≡ c.args.image.now = c.as_slice.ensures in
    let gives : IsTrue c.can_share.result ↔ CanShare z (zone_bytes z c.args.image.now) =
    subst (λ (image : List ℕ). IsTrue c.can_share.result ↔ CanShare z (zone_bytes z image)) bytes
    (subst (λ (y : Zone). IsTrue c.can_share.result ↔ CanShare y (zone_bytes y c.as_slice.result.now)) same
    c.can_share.ensures) in (
      λ h. opens zones c.args.name c.args.image.now c.in-Some.place z place there (gives.0 h),
      λ can. gives.1 (shares_opened zones c.args.name c.args.image.now c.in-Some.place z place there can),
    )
