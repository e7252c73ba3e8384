-- Each place has a zone, up to the last. For `zones_in_order`.
use Rattle.std.proofs.Common.{◌≡◌, ◌∙◌, ◌<◌, ◌^◌, length, ap, arith}
use Rattle.std.proofs.lemmas.List.{take_all}
use Rattle.psz_spec.specs.declared.Zone.{Zone}
use Rattle.psz_spec.specs.Layouts.{zones_of}
use Rattle.psz_spec.specs.Parts.{read_order}
use Rattle.storage_zones.proofs.Takes.{added}
use Rattle.storage_zones.proofs.Orders.{order_len}
use Rattle.storage_zones.proofs.zones.zones_in_order.Goals as goal

pub loop-index-preserved : goal.loop-index-preserved
loop-index-preserved c =
    added (read_order (zones_of c.args.sizes.now)) c.loop-index.zones.items c.add_zone.new.zones.items
    c.loop-index.index c.read_at-zone.result c.loop-index.invariant c.read_at-zone.ensures c.in_ok-add_zone.ensures

pub returns-clause-zones : goal.returns-clause-zones
returns-clause-zones c = c.loop-index.invariant
    ∙ take_all c.loop-index.index (read_order (zones_of c.args.sizes.now))
    (let all = c.zone_count-count.ensures.all in let past = c.loop-index-test.false in
    let same = order_len (zones_of c.args.sizes.now) in omega (arith, all, past, same))

pub returns-clause-few : goal.returns-clause-few
returns-clause-few c =
    let all = c.zone_count-count.ensures.all in
    let few = c.zone_count-count.ensures.few in
    let past = c.loop-index-test.false in
    let same = order_len (zones_of c.args.sizes.now) in
    let is = c.loop-index.invariant
    ∙ take_all c.loop-index.index (read_order (zones_of c.args.sizes.now)) (omega (arith, all, past, same)) in
    let len = ap length is in
    omega (arith, len, same, all, few)
