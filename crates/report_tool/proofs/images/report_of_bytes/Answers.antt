-- The plan's zones are whole in bytes of its size
use Rattle.std.proofs.Common.{◌∙◌}
use Rattle.report_tool.proofs.PlanZones.{whole}
use Rattle.report_tool.proofs.images.report_of_bytes.Goals as goal

pub report_of_zones-requires-clause-whole : goal.report_of_zones-requires-clause-whole
report_of_zones-requires-clause-whole c =
    let w = whole c.args.plan.now.params c.args.plan.now.zones.items
    c.args.plan.now.tagged c.args.plan.now.laid in
    rw (c.deref.ensures.value, c.requires ∙ c.args.plan.now.sized) w.layout

pub report_of_zones-requires-clause-few : goal.report_of_zones-requires-clause-few
report_of_zones-requires-clause-few c =
    rw c.deref.ensures.value (whole c.args.plan.now.params c.args.plan.now.zones.items
    c.args.plan.now.tagged c.args.plan.now.laid).few

pub report_of_zones-requires-clause-numbered : goal.report_of_zones-requires-clause-numbered
report_of_zones-requires-clause-numbered c =
    rw c.deref.ensures.value (whole c.args.plan.now.params c.args.plan.now.zones.items
    c.args.plan.now.tagged c.args.plan.now.laid).numbered
