-- The first `CPU: ` line of the processor that is stuck stands from here on. For the loop of `first_own`.
use Rattle.std.proofs.Common.{◌≡◌, Bool, ◌-◌, ◌+◌, length, Option, List, ℕ}
use Rattle.death_spec.specs.declared.Line.{Line}
use Rattle.death_spec.specs.declared.Mark.{Mark}
use Rattle.death_spec.specs.Lines.{lines_from, kind}
use Rattle.death_spec.specs.Telling.{ends_report}
use Rattle.death_spec.specs.Reports.{below, first_where, is_own}
use Rattle.death.proofs.MarkedLines.{in_report}
use Rattle.death.proofs.reports.first_own.Given as goal

-- whether a line ends a report of some kind, as the lines of a report are told apart
abbrev pub ends : Bool → Option Mark → Line → Bool
ends is_oops kind line = ends_report is_oops kind

abbrev pub invariant-lines : goal.invariant-lines
invariant-lines l =
    first_where (λ line. is_own l.text l.fn.stuck (kind l.text line) line) (below l.text l.fn.telling)
    ≡ first_where (λ line. is_own l.text l.fn.stuck (kind l.text line) line)
    (in_report l.text (ends l.is_oops) (lines_from l.text l.at))

abbrev pub decreases-lines : goal.decreases-lines
decreases-lines l = length l.text + 1 - l.at
