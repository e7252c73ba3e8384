-- The lines that are left decide
use Rattle.std.proofs.Common.{◌≡◌, ◌-◌, ◌+◌, length}
use Rattle.death_spec.specs.Lines.{lines_from}
use Rattle.report_spec.specs.Said.{said_after}
use Rattle.region_report.proofs.facts.said_after.Given as goal

abbrev pub invariant-lines : goal.invariant-lines
invariant-lines l =
    said_after l.text l.words (lines_from l.text l.at) ≡ said_after l.text l.words (lines_from l.text l.place)

abbrev pub decreases-lines : goal.decreases-lines
decreases-lines l = length l.text + 1 - l.place
