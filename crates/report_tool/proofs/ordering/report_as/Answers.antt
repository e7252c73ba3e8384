-- The zones are whole in bytes of the layout's size. For `report_as`.
use Rattle.report_tool.proofs.PlanZones.{whole}
use Rattle.report_tool.proofs.ordering.report_as.Goals as goal

pub report_of_zones-requires-clause-whole : goal.report_of_zones-requires-clause-whole
report_of_zones-requires-clause-whole c =
    let w = whole c.args.other.now.params c.args.other.now.zones.items
    c.args.other.now.tagged c.args.other.now.laid in
    rw (c.deref.ensures.value, c.requires) w.layout

pub report_of_zones-requires-clause-few : goal.report_of_zones-requires-clause-few
report_of_zones-requires-clause-few c =
    rw c.deref.ensures.value (whole c.args.other.now.params c.args.other.now.zones.items
    c.args.other.now.tagged c.args.other.now.laid).few

pub report_of_zones-requires-clause-numbered : goal.report_of_zones-requires-clause-numbered
report_of_zones-requires-clause-numbered c =
    rw c.deref.ensures.value (whole c.args.other.now.params c.args.other.now.zones.items
    c.args.other.now.tagged c.args.other.now.laid).numbered
