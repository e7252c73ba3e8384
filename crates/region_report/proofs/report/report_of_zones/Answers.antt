-- The spans of the image are its zones' bytes
use Rattle.std.proofs.Common.{List, ◌++◌, length, map, sym, ap, subst, ◌∙◌, refl}
use Rattle.std.specs.List.{concat}
use Rattle.prz_region.specs.CutRegion.{CutRegion, cut_at}
use Rattle.zone_spec.specs.RecordsHeld.{RecordHeld}
use Rattle.zone_spec.specs.declared.Zone.{Zone}
use Rattle.zone_spec.specs.PartStates.{PartStates}
use Rattle.prz_read.specs.Saving.{saved}
use Rattle.report_spec.specs.Packed.{RecordShown, AreShown}
use Rattle.report_spec.specs.Doubts.{with_doubts}
use Rattle.report_spec.specs.Mending.{records_mended}
use Rattle.region_report.specs.Reports.{SpansFit}
use Rattle.region_report.proofs.Zones.{spans-fit, spans-joined, report-is}
use Rattle.region_report.proofs.report.report_of_zones.Goals as goal

pub cut_zones-requires-clause-side_by_side : goal.cut_zones-requires-clause-side_by_side
cut_zones-requires-clause-side_by_side c = λ i z e. (c.requires.whole.valid i z e).1

pub read_zones-requires-clause-valid : goal.read_zones-requires-clause-valid
read_zones-requires-clause-valid c = λ i z e. (c.requires.whole.valid i z e).0

pub read_zones-requires-clause-fit : goal.read_zones-requires-clause-fit
read_zones-requires-clause-fit c =
    subst (λ (cut : CutRegion). SpansFit c.args.zones.now cut.spans)
    (ap (cut_at c.args.zones.now) (sym c.from_bytes.ensures) ∙ sym c.in-Ok.ensures)
    (spans-fit c.args.zones.now (length c.args.image) c.args.image c.requires.whole refl)

pub records_doubted-requires : goal.records_doubted-requires
records_doubted-requires c = record { valid = λ i z e. (c.requires.whole.valid i z e).0 }

pub returns-clause-report : goal.returns-clause-report
returns-clause-report c =
    let layout : List Zone = c.args.zones.now in
    let shown : List RecordShown = c.in_ok-shown.shown.items in
    report-is layout c.args.symbols.now c.args.given c.args.image c.in-Ok.spans.spans c.in_ok-logs.field-0 shown
    c.in_ok-records.records.items
    (ap (λ (cut : CutRegion). cut.spans) (c.in-Ok.ensures ∙ ap (cut_at layout) c.from_bytes.ensures))
    c.in_ok-logs.ensures
    (subst (λ (rs : List RecordHeld). AreShown layout c.args.symbols.now rs shown) c.in_ok-held.ensures
    c.in_ok-shown.ensures)
    (c.in_ok-records.ensures
    ∙ ap (λ (ps : List PartStates). records_mended ps c.in_ok-doubted.doubted.items) c.as_slice-2.ensures.value
    ∙ ap (records_mended c.in_ok-logs.field-0.parts.items) (c.in_ok-doubted.ensures
    ∙ ap (λ (ps : List PartStates).
    map (λ (s : RecordShown). with_doubts layout (saved c.in_ok-logs.field-0.logs) ps s) shown)
    c.as_slice.ensures.value))

pub returns-clause-image : goal.returns-clause-image
returns-clause-image c =
    c.into_bytes-image.ensures ∙ c.join.ensures
    ∙ ap (λ (cut : CutRegion). concat cut.spans ++ cut.rest)
    (c.in-Ok.ensures ∙ ap (cut_at c.args.zones.now) c.from_bytes.ensures)
    ∙ spans-joined c.args.zones.now (length c.args.image) c.args.image c.requires.whole
