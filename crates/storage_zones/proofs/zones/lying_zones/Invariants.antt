-- The zones so far. For the loop of `lying_zones`.
use Rattle.std.proofs.Common.{◌≡◌, take}
use Rattle.psz_spec.specs.Layouts.{zones_of}
use Rattle.storage_zones.proofs.zones.lying_zones.Given as goal

abbrev pub invariant-loop-index : goal.invariant-loop-index
invariant-loop-index l = l.zones.items ≡ take l.index (zones_of l.sizes)
