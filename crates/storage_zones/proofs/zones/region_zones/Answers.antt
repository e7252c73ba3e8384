-- One zone more. For `region_zones`.
use Rattle.std.proofs.Common.{◌≡◌, List, sym, subst, arith}
use Rattle.std.proofs.lemmas.Grind.{common_steps}
use Rattle.zone_spec.specs.declared.Zone.{Zone}
use Rattle.prz_read.specs.Saving.{AreNumbered}
use Rattle.storage_zones.proofs.Numbered.{numbered_more}
use Rattle.storage_zones.proofs.zones.region_zones.Goals as goal

pub loop-zone-preserved : goal.loop-zone-preserved
loop-zone-preserved c = record {
  zones = grind (arith, common_steps);
  numbered = subst AreNumbered (sym {A = List Zone} c.in_ok-push.ensures.items)
      (numbered_more c.loop-zone.all.items c.zone_of.result c.loop-zone.invariant.numbered c.zone_of.ensures.number);
}
