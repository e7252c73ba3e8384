-- Each zone is read from its own span
use Rattle.std.proofs.Common.{◌≡◌, ℕ, get_or, length, ap, subst, refl, arith}
use Rattle.prz_region.proofs.CutLoop.{no_zone}
use Rattle.region_report.specs.Reports.{ReadsTo}
use Rattle.region_report.proofs.Zones.{span_at, reads-next}
use Rattle.region_report.proofs.report.read_zones.Goals as goal

pub add-requires-clause-valid : goal.add-requires-clause-valid
add-requires-clause-valid c =
    let at = span_at c.args.zones.now c.args.zones.now no_zone c.args.spans.now.spans c.all.result.now c.loop-i.i
    c.index-all-i.result c.requires.fit refl c.all.ensures c.loop-i-test.true c.index-all-i.is in
    c.requires.valid c.loop-i.i (get_or c.args.zones.now c.loop-i.i no_zone) at.zone

pub add-requires-clause-size : goal.add-requires-clause-size
add-requires-clause-size c =
    (span_at c.args.zones.now c.args.zones.now no_zone c.args.spans.now.spans c.all.result.now c.loop-i.i
    c.index-all-i.result c.requires.fit refl c.all.ensures c.loop-i-test.true c.index-all-i.is).size

pub add-requires-clause-room : goal.add-requires-clause-room
add-requires-clause-room c =
    let n = c.loop-i.invariant.readings_len in
    let zones = ap length c.loop-i.invariant.zones_same in
    let below = c.loop-i-test.true in
    omega (arith, n, zones, below)

pub loop-i-preserved : goal.loop-i-preserved
loop-i-preserved c =
    let at = span_at c.args.zones.now c.args.zones.now no_zone c.args.spans.now.spans c.all.result.now c.loop-i.i
    c.index-all-i.result c.requires.fit refl c.all.ensures c.loop-i-test.true c.index-all-i.is in
    reads-next c.args.zones.now c.args.spans.now.spans c.loop-i.i c.loop-i.readings c.add.new.self
    (get_or c.args.zones.now c.loop-i.i no_zone) c.index-all-i.result c.loop-i.invariant at.zone at.span
    c.in_ok-add.ensures

pub returns : goal.returns
returns c =
    subst (λ (n : ℕ). ReadsTo c.args.zones.now c.args.spans.now.spans n c.loop-i.readings)
    (let low = c.loop-i-test.false in let high = c.loop-i.invariant.readings_len in
    let most = c.loop-i.auto.i-end in
    let e : c.loop-i.i ≡ length c.args.zones.now = omega (arith, low, most) in e) c.loop-i.invariant
