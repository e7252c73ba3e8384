-- A line is noted, or stands in what is left. For the loop of `places_of`.
use Rattle.std.proofs.Common.{◌≡◌, ◌-◌, ◌+◌, ℕ, length}
use Rattle.std.specs.List.{find}
use Rattle.std.specs.Option.{option_or}
use Rattle.std.specs.HashMap.{get}
use Rattle.death_spec.specs.Lines.{lines_from}
use Rattle.report_spec.specs.Mending.{is_keyed}
use Rattle.region_report.specs.Mendings.{is_same_key}
use Rattle.region_report.proofs.same_lines.places_of.Given as goal

abbrev pub invariant-lines : goal.invariant-lines
invariant-lines l = (q : ℕ × ℕ)
    → option_or (get is_same_key l.places q) (find (is_keyed l.text q) (lines_from l.text l.at))
    ≡ find (is_keyed l.text q) (lines_from l.text 0)

abbrev pub decreases-lines : goal.decreases-lines
decreases-lines l = length l.text + 1 - l.at
