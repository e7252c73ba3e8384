-- The names are those of the rings among the zones so far. For the loop of `rings`.
use Rattle.std.proofs.Common.{◌≡◌, take}
use Rattle.script_spec.specs.Generated.{rings}
use Rattle.ram_generator.proofs.turns.rings.Given as goal

abbrev pub invariant-zones : goal.invariant-zones
invariant-zones l = l.names.items ≡ rings (take l.zone-index l.zones)
