-- The lines so far are there, those that are left are not. For the loop of `push_log`.
use Rattle.std.proofs.Common.{◌≡◌, ◌-◌, ◌+◌, ◌++◌, length}
use Rattle.std.specs.Prelude.{flat_map}
use Rattle.death_spec.specs.Lines.{lines_from}
use Rattle.report_html.specs.Logs.{line_text}
use Rattle.report_html.proofs.logs.push_log.Given as goal

abbrev pub invariant-lines : goal.invariant-lines
invariant-lines l = l.out.items ++ flat_map (line_text l.doubts l.text) (lines_from l.text l.at)
    ≡ l.initial.out.items ++ flat_map (line_text l.doubts l.text) (lines_from l.text 0)

abbrev pub decreases-lines : goal.decreases-lines
decreases-lines l = length l.text + 1 - l.at
