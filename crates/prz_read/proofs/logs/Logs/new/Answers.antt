-- A layout has few zones, and their numbers have 32 bits
use Rattle.std.proofs.Common.{◌≡◌, ap, subst, length, arith, sym}
use Rattle.ramoops_layout.specs.Laid.{zones_of}
use Rattle.prz_read.specs.Saving.{AreNumbered}
use Rattle.prz_read.proofs.Saves.{layout-few}
use Rattle.prz_read.proofs.ZoneNumbers.{numbers-small}
use Rattle.prz_read.proofs.logs.Logs.new.Goals as goal

pub of_zones-requires-clause-few : goal.of_zones-requires-clause-few
of_zones-requires-clause-few c =
    let few = layout-few c.zones.result.now _ c.zones.ensures.laid_out in
    (let m = c.mem-mem.ensures in let t = c.mem-mem.type_inv in grind (arith, few, m, t))

pub of_zones-requires-clause-numbered : goal.of_zones-requires-clause-numbered
of_zones-requires-clause-numbered c =
    let few = layout-few c.zones.result.now _ c.zones.ensures.laid_out in
    let same : c.zones.result.now ≡ zones_of c.args.layout.now = c.zones.ensures.value in
    subst AreNumbered (sym same) (numbers-small c.args.layout.now.params (zones_of c.args.layout.now)
    c.args.layout.now.laid (let long = ap length same in
    (let m = c.mem-mem.ensures in let t = c.mem-mem.type_inv in grind (arith, long, few, m, t))))
