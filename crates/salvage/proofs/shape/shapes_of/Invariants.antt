-- The shapes so far, and those of the zones left that are unlike them, are all shapes. For the
-- loop of `shapes_of`.
use Rattle.std.proofs.Common.{◌≡◌, ◌++◌, drop}
use Rattle.salvage_spec.specs.Rings.{shapes}
use Rattle.salvage.proofs.ZoneShapes.{unlike}
use Rattle.salvage.proofs.shape.shapes_of.Given as goal

abbrev pub invariant-loop-zone : goal.invariant-loop-zone
invariant-loop-zone l = l.shapes.items ++ unlike l.shapes.items (shapes (drop l.zone-index l.zones)) ≡ shapes l.zones
