-- All zones are read. For `read_zones`.
use Rattle.std.proofs.Common.{◌≡◌, ◌∙◌, ℕ, List, length, map, take, ap, sym, arith}
use Rattle.std.specs.Prelude.{replicate}
use Rattle.std.proofs.lemmas.List.{take_all, length-map}
use Rattle.psz_spec.specs.declared.Zone.{Zone}
use Rattle.psz_spec.specs.Layouts.{zones_of}
use Rattle.psz_spec.specs.Parts.{read_order}
use Rattle.storage_spec.specs.Zones.{zone_of, reading_in, no_parts, zones_in, readings_in}
use Rattle.storage_zones.proofs.zones.read_zones.Goals as goal

pub returns : goal.returns
unfolding zones_in readings_in
returns c =
    let items : List Zone = c.deref-zone-items.result.now in
    let order : items ≡ read_order (zones_of c.args.sizes.now) =
    c.deref-zone-items.ensures.value ∙ c.in_ok-order.ensures.zones in
    let past = c.loop-zone-test.false in
    let most = c.loop-zone.auto.zone-index-end in
    let all : c.loop-zone.zone-index ≡ length items = omega (arith, past, most) in
    record {
      zones = c.loop-zone.invariant.zones ∙ ap (map (zone_of c.args.machine)) order;
      logs_zones = c.loop-zone.invariant.logs_zones ∙ ap (map (zone_of c.args.machine)) order;
      readings = c.loop-zone.invariant.readings
          ∙ ap (map (reading_in c.args.machine c.args.image.now))
          (take_all c.loop-zone.zone-index items (omega (arith, past)) ∙ order);
      parts = c.loop-zone.invariant.parts
          ∙ ap (λ (n : ℕ). replicate n no_parts)
          (all ∙ sym (length-map items (zone_of c.args.machine))
          ∙ ap (λ (zs : List Zone). length (map (zone_of c.args.machine) zs)) order);
    }
