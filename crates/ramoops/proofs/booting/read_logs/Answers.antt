-- Each zone lies in its span; its log more makes the logs of one zone further, and in the end of
-- all. For `read_logs`.
use Rattle.std.proofs.Common.{◌≡◌, ℕ, List, get_or, slice_get, length, ap, subst, ◌∙◌, arith}
use Rattle.zone_spec.specs.declared.Zone.{Zone}
use Rattle.ramoops_layout.specs.Laid.{zones_of}
use Rattle.prz_region.proofs.CutLoop.{no_zone}
use Rattle.ramoops.proofs.BootReading.{LogsTo, span_at, logs_none, logs_next, logs_whole}
use Rattle.ramoops.proofs.booting.read_logs.Goals as goal

pub loop-i-init : goal.loop-i-init
loop-i-init c = logs_none _ _ _ c.in_ok-logs.ensures

pub read_with-requires-clause-valid : goal.read_with-requires-clause-valid
read_with-requires-clause-valid c =
    let at = span_at (zones_of c.args.layout.now) c.zones-zones.result.now no_zone c.args.spans.now.spans
    c.all.result.now c.loop-i.i c.index-all-i.result c.requires c.zones-zones.ensures.value c.all.ensures
    c.loop-i-test.true c.index-all-i.is in
    (c.zones-zones.ensures.laid_out.valid c.loop-i.i (get_or c.zones-zones.result.now c.loop-i.i no_zone)
    (ap (λ (l : List Zone). slice_get l c.loop-i.i) c.zones-zones.ensures.value ∙ at.zone)).0

pub read_with-requires-clause-size : goal.read_with-requires-clause-size
read_with-requires-clause-size c =
    (span_at (zones_of c.args.layout.now) c.zones-zones.result.now no_zone c.args.spans.now.spans c.all.result.now
    c.loop-i.i c.index-all-i.result c.requires c.zones-zones.ensures.value c.all.ensures c.loop-i-test.true
    c.index-all-i.is).size

pub push-requires : goal.push-requires
push-requires c =
    let to = c.loop-i.invariant in
    let n = to.len in
    let zones = ap length to.zones in
    let same = ap length c.zones-zones.ensures.value in
    let below = c.loop-i-test.true in
    omega (arith, n, zones, same, below)

pub loop-i-preserved : goal.loop-i-preserved
loop-i-preserved c =
    let at = span_at (zones_of c.args.layout.now) c.zones-zones.result.now no_zone c.args.spans.now.spans
    c.all.result.now c.loop-i.i c.index-all-i.result c.requires c.zones-zones.ensures.value c.all.ensures
    c.loop-i-test.true c.index-all-i.is in
    logs_next (zones_of c.args.layout.now) c.args.spans.now.spans c.loop-i.i c.loop-i.logs c.push.new.self
    (get_or c.zones-zones.result.now c.loop-i.i no_zone) c.index-all-i.result c.in_ok-reading.reading
    c.loop-i.invariant at.zone at.span c.in_ok-reading.ensures c.push.ensures

pub returns : goal.returns
returns c =
    let same = ap length c.zones-zones.ensures.value in
    logs_whole (zones_of c.args.layout.now) c.args.spans.now.spans c.loop-i.logs
    (subst (λ (n : ℕ). LogsTo (zones_of c.args.layout.now) c.args.spans.now.spans n c.loop-i.logs)
    (let low = c.loop-i-test.false in
    let e : c.loop-i.i ≡ length (zones_of c.args.layout.now) = omega (arith, same, low) in e) c.loop-i.invariant)
