-- The rows of the deaths so far
use Rattle.std.proofs.Common.{◌≡◌, ◌++◌, map, take}
use Rattle.std.specs.Prelude.{flat_map}
use Rattle.region_report.specs.Tellers.{as_told}
use Rattle.report_text.specs.Pieces.{parts}
use Rattle.report_text.specs.Earlier.{earlier_row}
use Rattle.report_text.proofs.earlier.add_each.Given as goal

abbrev pub invariant-loop-told : goal.invariant-loop-told
invariant-loop-told l = parts l.pieces.items
    ≡ parts l.initial.pieces.items ++ flat_map earlier_row (map as_told (take l.told-index l.tellings))
