-- None of the shapes passed has a ring at the place. For the loop of `first_at`.
use Rattle.std.proofs.Common.{◌≡◌, ◌*◌, drop}
use Rattle.std.specs.Prelude.{filter_map}
use Rattle.salvage_spec.specs.Rings.{ring_at}
use Rattle.salvage.proofs.scan.first_at.Given as goal

abbrev pub invariant-loop-index : goal.invariant-loop-index
invariant-loop-index l = filter_map (ring_at l.dump (2 * l.place)) (drop l.start l.shapes)
    ≡ filter_map (ring_at l.dump (2 * l.place)) (drop l.index l.shapes)
