-- The zones so far as they read. For the loop of `read_zones`.
use Rattle.std.proofs.Common.{◌≡◌, take, map, length}
use Rattle.std.specs.Prelude.{replicate}
use Rattle.storage_spec.specs.Zones.{zone_of, reading_in, no_parts}
use Rattle.storage_zones.proofs.zones.read_zones.Given as goal

abbrev pub invariant-loop-zone : goal.invariant-loop-zone
invariant-loop-zone l = record {
  zones : l.read.zones.items ≡ map (zone_of l.machine) l.zone-items;
  logs_zones : l.read.logs.zones ≡ map (zone_of l.machine) l.zone-items;
  readings : l.read.logs.readings ≡ map (reading_in l.machine l.image) (take l.zone-index l.zone-items);
  parts : l.read.parts.items ≡ replicate l.zone-index no_parts;
}
