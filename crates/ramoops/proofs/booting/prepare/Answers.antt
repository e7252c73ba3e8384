-- Each zone lies in its span, so one more can be read; the machine is then prepared to one zone
-- further. For `prepare`.
use Rattle.std.proofs.Common.{◌<◌, List, length, get_or, slice_get, ap, ◌∙◌, subst}
use Rattle.std.specs.Option.{option_copied}
use Rattle.zone_spec.specs.declared.Zone.{Zone}
use Rattle.ramoops_layout.specs.Laid.{zones_of}
use Rattle.prz_region.proofs.CutLoop.{no_zone}
use Rattle.ramoops.specs.OffSeen.{known_or, known_all}
use Rattle.ramoops.proofs.BootReading.{span_at, known_got, prepares_next}
use Rattle.ramoops.proofs.booting.prepare.Goals as goal

pub add-requires-clause-valid : goal.add-requires-clause-valid
add-requires-clause-valid c =
    let at = span_at (zones_of c.args.layout.now) c.zones-zones.result.now no_zone c.args.spans.now.spans
    c.all.result.now c.loop-i.i c.index-all-i.result c.requires c.zones-zones.ensures.value c.all.ensures
    c.loop-i-test.true c.index-all-i.is in
    (c.zones-zones.ensures.laid_out.valid c.loop-i.i (get_or c.zones-zones.result.now c.loop-i.i no_zone)
    (ap (λ (l : List Zone). slice_get l c.loop-i.i) c.zones-zones.ensures.value ∙ at.zone)).0

pub add-requires-clause-size : goal.add-requires-clause-size
add-requires-clause-size c =
    (span_at (zones_of c.args.layout.now) c.zones-zones.result.now no_zone c.args.spans.now.spans c.all.result.now
    c.loop-i.i c.index-all-i.result c.requires c.zones-zones.ensures.value c.all.ensures c.loop-i-test.true
    c.index-all-i.is).size

pub loop-i-preserved : goal.loop-i-preserved
loop-i-preserved c =
    let at = span_at (zones_of c.args.layout.now) c.zones-zones.result.now no_zone c.args.spans.now.spans
    c.all.result.now c.loop-i.i c.index-all-i.result c.requires c.zones-zones.ensures.value c.all.ensures
    c.loop-i-test.true c.index-all-i.is in
    prepares_next (zones_of c.args.layout.now) c.args.spans.now.spans
    (known_all (length (zones_of c.args.layout.now)) c.args.known.now) c.loop-i.i c.loop-i.prepared
    c.add.new.self (get_or c.zones-zones.result.now c.loop-i.i no_zone) c.index-all-i.result
    (known_or (option_copied c.get.result)) c.loop-i.invariant at.zone at.span
    (known_got (length (zones_of c.args.layout.now)) c.args.known.now c.loop-i.i c.get.result
    (subst (λ (l : List Zone). c.loop-i.i < length l) c.zones-zones.ensures.value c.loop-i-test.true)
    c.get.ensures.lookup) c.in_ok-add.ensures
