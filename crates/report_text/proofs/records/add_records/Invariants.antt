-- The rows of the records so far
use Rattle.std.proofs.Common.{◌≡◌, ◌++◌, take}
use Rattle.std.specs.Prelude.{flat_map}
use Rattle.report_text.specs.Pieces.{parts}
use Rattle.report_text.specs.Tables.{record_row}
use Rattle.report_text.proofs.records.add_records.Given as goal

abbrev pub invariant-loop-entry : goal.invariant-loop-entry
invariant-loop-entry l = parts l.pieces.items
    ≡ parts l.initial.pieces.items ++ flat_map record_row (take l.entry-index l.records)
