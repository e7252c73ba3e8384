-- The image is the caller's bytes, from its copy to its report.
use Rattle.std.proofs.Common.{◌∙◌}
use Rattle.report_entry.specs.Memory.{image_bytes}
use Rattle.report_entry.proofs.PlanFaults.{report_ended}
use Rattle.report_entry.proofs.reports.region_report.Goals as goal

pub returns : goal.returns
returns c =
    let copied = c.new-image.ensures.bytes ∙ c.in_ok-copy_of.ensures in
    report_ended c.args.words.now c.args.tree.now c.args.format c.args.name.now c.args.image.now c.in-Ok.layouts
    c.in_ok-told.told (image_bytes c.new-image.result) (image_bytes c.plan_of.new.image) copied
    (c.in_ok-told.ensures.same ∙ copied) c.in-Ok.ensures c.in_ok-told.ensures.planned c.report_by.result
    c.report_by.ensures
