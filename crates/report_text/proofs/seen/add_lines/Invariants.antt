-- The lines so far are there, those that are left are not. For the loop of `add_lines`.
use Rattle.std.proofs.Common.{◌≡◌, ◌-◌, ◌+◌, ◌++◌, length}
use Rattle.std.specs.Prelude.{flat_map}
use Rattle.death_spec.specs.Lines.{lines_from}
use Rattle.report_text.specs.Pieces.{parts}
use Rattle.report_text.specs.Tails.{line_rows}
use Rattle.report_text.proofs.seen.add_lines.Given as goal

abbrev pub invariant-lines : goal.invariant-lines
invariant-lines l = parts l.pieces.items ++ flat_map (line_rows l.tells l.doubts l.text) (lines_from l.text l.at)
    ≡ parts l.initial.pieces.items ++ flat_map (line_rows l.tells l.doubts l.text) (lines_from l.text 0)

abbrev pub decreases-lines : goal.decreases-lines
decreases-lines l = length l.text + 1 - l.at
