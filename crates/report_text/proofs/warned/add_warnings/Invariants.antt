-- The lines of the warnings so far
use Rattle.std.proofs.Common.{◌≡◌, ◌++◌, take}
use Rattle.std.specs.Prelude.{flat_map}
use Rattle.report_text.specs.Pieces.{parts}
use Rattle.report_text.specs.Facts.{warning_parts}
use Rattle.report_text.proofs.warned.add_warnings.Given as goal

abbrev pub invariant-loop-warning : goal.invariant-loop-warning
invariant-loop-warning l = parts l.pieces.items
    ≡ parts l.initial.pieces.items ++ flat_map warning_parts (take l.warning-index l.warnings)
