-- The zones so far
use Rattle.std.proofs.Common.{◌≡◌, ◌++◌, take}
use Rattle.std.specs.Prelude.{flat_map}
use Rattle.std.specs.List.{zip}
use Rattle.report_html.specs.Pieces.{parts}
use Rattle.report_html.specs.Pictures.{map_parts, width_of}
use Rattle.report_html.proofs.picture.add_map.Given as goal

abbrev pub invariant-loop-i : goal.invariant-loop-i
invariant-loop-i l = parts l.pieces.items ≡ parts l.initial.pieces.items
    ++ flat_map (map_parts (width_of l.zones)) (take l.i (zip (zip l.zones l.report.logs.readings) l.report.parts))
