-- The zone is in the copy, and those before it still are. For `fill_zones`.
use Rattle.std.proofs.Common.{◌∙◌, length, arith}
use Rattle.storage_report.proofs.Copies.{zones_at}
use Rattle.storage_report.proofs.filling.fill_zones.Goals as goal

pub loop-zone-preserved : goal.loop-zone-preserved
loop-zone-preserved g c = record {
  held = c.in_ok-fill_zone.ensures.same ∙ c.loop-zone.invariant.held;
  faults = c.in_ok-fill_zone.ensures.done ∙ c.loop-zone.invariant.faults;
  len = c.fill_zone.auto.copy ∙ c.loop-zone.invariant.len;
  has = zones_at (g.M.Load.holds c.args.image.now) (g.M.Load.holds c.loop-zone.image) c.args.machine c.args.zones.now
      c.loop-zone.zone-index (length c.args.copy.now) _ c.loop-zone.copy c.fill_zone.new.copy c.loop-zone.invariant.held
      c.loop-zone.invariant.len (omega arith) c.in_ok-fill_zone.ensures.keeps c.in_ok-fill_zone.ensures.has
      c.loop-zone.invariant.has;
}
