-- The lines that are left decide
use Rattle.std.proofs.Common.{◌≡◌, ◌-◌, ◌+◌, length}
use Rattle.std.specs.Prelude.{bytes_eq}
use Rattle.std.specs.List.{list_any}
use Rattle.death_spec.specs.Lines.{lines_from}
use Rattle.report_spec.specs.Deaths.{stamped, has_line}
use Rattle.region_report.proofs.deaths.has_line.Given as goal

abbrev pub invariant-lines : goal.invariant-lines
invariant-lines l = has_line l.text l.words
    ≡ list_any (λ line. bytes_eq (stamped l.text line) l.words) (lines_from l.text l.at)

abbrev pub decreases-lines : goal.decreases-lines
decreases-lines l = length l.text + 1 - l.at
