-- An image of which nothing is known stands for the fresh state, and rests. For `Off::fresh`.
use Rattle.std.proofs.Common.{ℕ, List, ap, length, subst, arith}
use Rattle.zone_spec.specs.declared.Zone.{Zone}
use Rattle.zone_spec.specs.Layouts.{IsLayout}
use Rattle.ramoops_layout.specs.Laid.{params_of, zones_of}
use Rattle.ramoops.specs.declared.known.KnownZone.{KnownZone}
use Rattle.ramoops.specs.OffSeen.{known_all}
use Rattle.ramoops.proofs.KnownZones.{all_len, none_listed}
use Rattle.ramoops.proofs.OffStates.{fresh_stands, fresh_rests}
use Rattle.ramoops.proofs.off.Off.fresh.Goals as goal

pub invariant_of-result : goal.invariant_of-result
invariant_of-result c =
    let count : ℕ = length (zones_of c.args.layout) in
    let none = ap (length {A = KnownZone}) c.new.ensures.items in (
      c.requires,
      omega (arith, none),
      fresh_rests (zones_of c.args.layout) (params_of c.args.layout).mem c.args.image
          (known_all count c.new.result.items) (all_len count c.new.result.items (omega (arith, none)))
          (none_listed count c.new.result.items c.new.ensures.items)
          (subst (λ (l : List Zone). IsLayout l (params_of c.args.layout).mem) c.zones-zones.ensures.value
          c.zones-zones.ensures.laid_out) c.requires c.len-len.ensures.bytes,
    )

pub returns-clause-stands : goal.returns-clause-stands
returns-clause-stands c =
    let count : ℕ = length (zones_of c.args.layout) in
    let none = ap (length {A = KnownZone}) c.new.ensures.items in
    fresh_stands (zones_of c.args.layout) (params_of c.args.layout).mem c.args.image
    (known_all count c.new.result.items) (all_len count c.new.result.items (omega (arith, none)))
    (none_listed count c.new.result.items c.new.ensures.items)
