-- The first line of each kind is the one found, or among those from here. For the loop of `heads`.
use Rattle.std.proofs.Common.{◌≡◌, Bool, ◌-◌, ◌+◌, length, Option, List, ℕ}
use Rattle.std.specs.Option.{option_or}
use Rattle.death_spec.specs.declared.Line.{Line}
use Rattle.death_spec.specs.declared.Span.{Span}
use Rattle.death_spec.specs.declared.Mark.{Mark}
use Rattle.death_spec.specs.declared.Mark.TheVariants.{Processor, Place, Link, Own}
use Rattle.death_spec.specs.Lines.{lines_from, said, is_a}
use Rattle.death_spec.specs.Reports.{ends_below, report, first_where}
use Rattle.death_spec.specs.Traces.{is_entry}
use Rattle.death.proofs.MarkedLines.{in_report}
use Rattle.death.proofs.reports.heads.Given as goal

-- of the lines of a report, the first that counts is the one found, or among those from a place on
abbrev pub Found : List ℕ → Line → Option Mark → Option Span → ℕ → (Line → Bool) → Option Line → Type 0
Found text telling head stuck at p found =
    first_where p (report text telling)
    ≡ option_or found (first_where p (in_report text (ends_below text head stuck) (lines_from text at)))

abbrev pub invariant-lines : goal.invariant-lines
invariant-lines l =
    Found l.text l.fn.telling l.head l.stuck l.at (is_a l.text Processor) l.processor
    × Found l.text l.fn.telling l.head l.stuck l.at (is_a l.text Place) l.place
    × Found l.text l.fn.telling l.head l.stuck l.at (is_a l.text Link) l.link
    × Found l.text l.fn.telling l.head l.stuck l.at (λ line. is_entry (said l.text line)) l.entry
    × Found l.text l.fn.telling l.head l.stuck l.at (is_a l.text Own) l.own

abbrev pub decreases-lines : goal.decreases-lines
decreases-lines l = length l.text + 1 - l.at
