-- What is not clean of the zones so far
use Rattle.std.proofs.Common.{◌≡◌, take}
use Rattle.std.specs.Prelude.{flat_map}
use Rattle.std.specs.List.{zip}
use Rattle.report_html.specs.Spots.{zone_spots}
use Rattle.report_html.proofs.spots.spots_of.Given as goal

abbrev pub invariant-loop-i : goal.invariant-loop-i
invariant-loop-i l = l.spots.items ≡ flat_map zone_spots (take l.i (zip l.zones l.states))
