-- A layout's zones are whole, few and numbered
use Rattle.std.proofs.Common.{◌≡◌, sym, ap, subst, length, arith}
use Rattle.ramoops_layout.specs.Laid.{zones_of}
use Rattle.zone_spec.specs.Layouts.{IsLayout}
use Rattle.prz_read.specs.Saving.{AreNumbered}
use Rattle.prz_read.proofs.Saves.{layout-few}
use Rattle.prz_read.proofs.ZoneNumbers.{numbers-small}
use Rattle.region_report.proofs.report.report_of.Goals as goal

pub report_of_zones-requires-clause-whole : goal.report_of_zones-requires-clause-whole
report_of_zones-requires-clause-whole c =
    subst (IsLayout c.zones.result.now) (sym c.requires) c.zones.ensures.laid_out

pub report_of_zones-requires-clause-few : goal.report_of_zones-requires-clause-few
report_of_zones-requires-clause-few c =
    let few = layout-few c.zones.result.now _ c.zones.ensures.laid_out in
    (let m = c.mem-mem.ensures in let t = c.mem-mem.type_inv in grind (arith, few, m, t))

pub report_of_zones-requires-clause-numbered : goal.report_of_zones-requires-clause-numbered
report_of_zones-requires-clause-numbered c =
    let few = layout-few c.zones.result.now _ c.zones.ensures.laid_out in
    let same : c.zones.result.now ≡ zones_of c.args.layout.now = c.zones.ensures.value in
    subst AreNumbered (sym same) (numbers-small c.args.layout.now.params (zones_of c.args.layout.now)
    c.args.layout.now.laid (let long = ap length same in
    (let m = c.mem-mem.ensures in let t = c.mem-mem.type_inv in grind (arith, long, few, m, t))))
