-- The plan is that of the part's image, and the region is what is read. For `report_part`.
use Rattle.std.proofs.Common.{◌≡◌, ◌∙◌, ℕ, List, Some, ap}
use Rattle.report_run.specs.Plans.{dressed, map_of}
use Rattle.report_run.proofs.LogReports.{by_plan}
use Rattle.report_run.proofs.boots.report_part.Goals as goal

pub returns-clause-reported : goal.returns-clause-reported
returns-clause-reported g c =
    let is_plan : c.in_ok-plan-2.plan ≡ dressed c.in_ok-plan.field-0.plan c.args.asked.now.lines (map_of c.args.asked.now.map) =
    c.in_ok-plan-2.ensures in
    let is_region : Some c.new-image.result.bytes.items ≡ Some c.in_ok-plan.field-0.region.items =
    ap (λ (bs : List ℕ). Some bs) (c.new-image.ensures ∙ cc) in
    by_plan c.args.asked.now c.args.format c.args.name.now c.args.part.now c.in_ok-plan.field-0 c.in_ok-plan.ensures
    c.in_ok-plan-2.plan is_plan (Some c.new-image.result.bytes.items) is_region (g.O.Sink.given c.args.out.now)
    (g.O.Sink.given c.report_by.new.out) (g.O.Sink.faults c.args.out.now) (g.O.Sink.faults c.report_by.new.out)
    c.report_by.result c.report_by.ensures.reported
