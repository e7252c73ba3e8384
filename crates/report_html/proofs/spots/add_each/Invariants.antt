-- The rows so far
use Rattle.std.proofs.Common.{◌≡◌, ◌++◌, take}
use Rattle.std.specs.Prelude.{flat_map}
use Rattle.report_html.specs.Pieces.{parts}
use Rattle.report_html.specs.Spots.{spot_parts}
use Rattle.report_html.proofs.spots.add_each.Given as goal

abbrev pub invariant-loop-spot : goal.invariant-loop-spot
invariant-loop-spot l = parts l.pieces.items
    ≡ parts l.initial.pieces.items ++ flat_map spot_parts (take l.spot-index l.spots)
