-- The zones so far, and their numbers. For the loop of `region_zones`.
use Rattle.std.proofs.Common.{◌≡◌, take, map}
use Rattle.storage_spec.specs.Zones.{zone_of}
use Rattle.prz_read.specs.Saving.{AreNumbered}
use Rattle.storage_zones.proofs.zones.region_zones.Given as goal

abbrev pub invariant-loop-zone : goal.invariant-loop-zone
invariant-loop-zone l = record {
  zones : l.all.items ≡ map (zone_of l.machine) (take l.zone-index l.zones);
  numbered : AreNumbered l.all.items;
}
