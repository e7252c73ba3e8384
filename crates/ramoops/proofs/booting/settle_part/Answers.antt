-- One zone more is passed with what is left of the limit, and in the end spans and notes are those
-- of a boot cut there. For `settle_part`.
use Rattle.std.proofs.Common.{◌≡◌, ◌≤◌, ℕ, List, length, slice_get, true, sym, ap, ◌∙◌, subst, arith, rules}
use Rattle.zone_spec.specs.declared.Zone.{Zone}
use Rattle.ramoops_layout.specs.Laid.{zones_of}
use Rattle.ramoops.specs.declared.booting.Passed.{Passed}
use Rattle.ramoops.specs.Parting.{PartsTo}
use Rattle.ramoops.proofs.BootStores.{next_zone, zone_is}
use Rattle.ramoops.proofs.CutBoot.{parts_none, parts_next}
use Rattle.ramoops.proofs.booting.settle_part.Goals as goal

pub loop-i-init : goal.loop-i-init
loop-i-init c = record {
  parts = subst (λ (ps : List Passed). PartsTo (zones_of c.args.layout.now)
      c.args.spans.now c.args.spans.now c.args.limit 0 (record { left = c.args.limit; is_whole = true }) ps)
      (sym c.requires.none) (parts_none (zones_of c.args.layout.now) c.args.spans.now c.args.limit);
  room = c.requires.room;
}

pub pass-next-requires : goal.pass-next-requires
pass-next-requires c =
    let zones = zones_of c.args.layout.now in
    let z = zone_is c.zones-zones.result.now zones c.loop-i.i c.len-i-end.result _ c.zones-zones.ensures.value
    c.loop-i-test.true c.len-i-end.ensures.readings c.requires.logs.len in
    let next = next_zone zones c.args.spans.now c.loop-i.spans c.args.logs.now.readings c.loop-i.i _
    c.requires.spans c.requires.logs.readings (c.loop-i.invariant.parts.others c.loop-i.i (omega arith)) z in
    record {
      valid = (c.zones-zones.ensures.laid_out.valid c.loop-i.i _
          (ap (λ (l : List Zone). slice_get l c.loop-i.i) c.zones-zones.ensures.value ∙ z)).0;
      span = search rules;
      size = next.size;
      zones = search rules;
      reading = next.reading;
    }

pub loop-i-preserved : goal.loop-i-preserved
loop-i-preserved c =
    let z = zone_is c.zones-zones.result.now (zones_of c.args.layout.now)
    c.loop-i.i c.len-i-end.result _ c.zones-zones.ensures.value c.loop-i-test.true c.len-i-end.ensures.readings
    c.requires.logs.len in
    record {
      parts = parts_next (zones_of c.args.layout.now) c.args.spans.now c.loop-i.spans c.pass-next.new.spans
          c.args.limit c.loop-i.i c.loop-i.progress c.loop-i.passed.items c.push_reserved.new.self.items _
          c.pass-next.result
          c.loop-i.invariant.parts c.requires.spans.count z c.pass-next.ensures.stores c.pass-next.ensures.left
          c.pass-next.ensures.words c.pass-next.ensures.made c.pass-next.ensures.all c.pass-next.ensures.erase_at
          c.push_reserved.ensures.items;
      room = subst (λ (n : ℕ). length (zones_of c.args.layout.now) ≤ n) (sym c.push_reserved.ensures.capacity)
          c.loop-i.invariant.room;
    }

pub returns : goal.returns
returns c =
    let end : c.loop-i.i ≡ length (zones_of c.args.layout.now) =
    (let a = c.loop-i.auto.i-end in let b = c.loop-i-test.false in let d = c.len-i-end.ensures.readings in
    let e = c.requires.logs.len in omega (arith, a, b, d, e)) in
    subst (λ (n : ℕ). PartsTo (zones_of c.args.layout.now)
    c.args.spans.now c.loop-i.spans c.args.limit n c.loop-i.progress c.loop-i.passed.items)
    end c.loop-i.invariant.parts
