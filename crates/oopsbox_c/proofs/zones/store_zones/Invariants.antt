-- The places that are stored so far.
use Rattle.std.proofs.Common.{◌≡◌, length}
use Rattle.oopsbox_c.specs.Zones.{PlacesTo}
use Rattle.oopsbox_c.proofs.zones.store_zones.Given as goal

abbrev pub invariant-loop-i : goal.invariant-loop-i
invariant-loop-i l = record {
  stored : PlacesTo l.i l.zones l.fn.places l.places;
  len : length l.places ≡ length l.fn.places;
}
