-- The rows of the zones so far
use Rattle.std.proofs.Common.{◌≡◌, ◌++◌, take}
use Rattle.std.specs.Prelude.{flat_map}
use Rattle.prz_read.specs.Saving.{saved}
use Rattle.report_text.specs.Pieces.{parts}
use Rattle.report_text.specs.Tables.{zone_row}
use Rattle.report_text.proofs.zones.add_zones.Given as goal

abbrev pub invariant-loop-i : goal.invariant-loop-i
invariant-loop-i l = parts l.pieces.items
    ≡ parts l.initial.pieces.items ++ flat_map zone_row (take l.i (saved l.logs))
