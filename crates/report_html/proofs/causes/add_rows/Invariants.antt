-- The rows so far
use Rattle.std.proofs.Common.{◌≡◌, ◌++◌, take}
use Rattle.std.specs.Prelude.{flat_map}
use Rattle.report_html.specs.Pieces.{parts}
use Rattle.report_html.specs.Causes.{cause_parts, crashes_in}
use Rattle.report_html.proofs.causes.add_rows.Given as goal

abbrev pub invariant-loop-row : goal.invariant-loop-row
invariant-loop-row l = parts l.pieces.items
    ≡ parts l.initial.pieces.items ++ flat_map (cause_parts (crashes_in l.crashes)) (crashes_in (take l.row-index l.rows))
