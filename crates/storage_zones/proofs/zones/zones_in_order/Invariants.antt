-- The zones so far. For the loop of `zones_in_order`.
use Rattle.std.proofs.Common.{◌≡◌, take}
use Rattle.psz_spec.specs.Layouts.{zones_of}
use Rattle.psz_spec.specs.Parts.{read_order}
use Rattle.storage_zones.proofs.zones.zones_in_order.Given as goal

abbrev pub invariant-loop-index : goal.invariant-loop-index
invariant-loop-index l = l.zones.items ≡ take l.index (read_order (zones_of l.sizes))
