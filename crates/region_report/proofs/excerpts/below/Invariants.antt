-- The place is the same from here, with as many lines as are left. For the loop of `below`.
use Rattle.std.proofs.Common.{◌≡◌}
use Rattle.report_spec.specs.Excerpts.{below}
use Rattle.region_report.proofs.excerpts.below.Given as goal

abbrev pub invariant-lines : goal.invariant-lines
invariant-lines l = below l.text l.place l.left ≡ below l.text l.at l.lines

abbrev pub decreases-lines : goal.decreases-lines
decreases-lines l = l.left
