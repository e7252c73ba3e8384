-- The boot stores of one zone more settle the spans one zone further. For `settle_all`.
use Rattle.std.proofs.Common.{◌≡◌, ℕ, List, length, subst, slice_get, ap, ◌∙◌, arith, rules}
use Rattle.zone_spec.specs.declared.Zone.{Zone}
use Rattle.ramoops_layout.specs.Laid.{zones_of}
use Rattle.ramoops.specs.Booting.{SettlesTo}
use Rattle.ramoops.proofs.BootStores.{settles_none, settles_next, next_zone, zone_is}
use Rattle.ramoops.proofs.booting.settle_all.Goals as goal

pub loop-i-init : goal.loop-i-init
loop-i-init c = settles_none (zones_of c.args.layout.now) c.args.spans.now

pub pass-passed-requires : goal.pass-passed-requires
pass-passed-requires c =
    let zones = zones_of c.args.layout.now in
    let z = zone_is c.zones-zones.result.now zones c.loop-i.i c.len-i-end.result _ c.zones-zones.ensures.value
    c.loop-i-test.true c.len-i-end.ensures.readings c.requires.logs.len in
    let next = next_zone zones c.args.spans.now c.loop-i.spans c.args.logs.now.readings c.loop-i.i _
    c.requires.spans c.requires.logs.readings (c.loop-i.invariant.others c.loop-i.i (omega arith)) z in
    record {
      valid = (c.zones-zones.ensures.laid_out.valid c.loop-i.i _
          (ap (λ (l : List Zone). slice_get l c.loop-i.i) c.zones-zones.ensures.value ∙ z)).0;
      span = search rules;
      size = next.size;
      zones = search rules;
      reading = next.reading;
    }

pub loop-i-preserved : goal.loop-i-preserved
loop-i-preserved c =
    let z = zone_is c.zones-zones.result.now (zones_of c.args.layout.now)
    c.loop-i.i c.len-i-end.result _ c.zones-zones.ensures.value c.loop-i-test.true c.len-i-end.ensures.readings
    c.requires.logs.len in
    let all = c.pass-passed.ensures.all in let few = c.pass-passed.ensures.few in
    settles_next (zones_of c.args.layout.now) c.args.spans.now c.loop-i.spans c.pass-passed.new.spans c.loop-i.i
    18446744073709551615 _ c.loop-i.invariant c.requires.spans.count z
    (omega (arith, all, few)) c.pass-passed.ensures.stores

pub returns : goal.returns
returns c =
    let end : c.loop-i.i ≡ length (zones_of c.args.layout.now) =
    (let a = c.loop-i.auto.i-end in let b = c.loop-i-test.false in let d = c.len-i-end.ensures.readings in
    let e = c.requires.logs.len in omega (arith, a, b, d, e)) in
    subst (λ (n : ℕ). SettlesTo (zones_of c.args.layout.now) c.args.spans.now c.loop-i.spans n) end c.loop-i.invariant
