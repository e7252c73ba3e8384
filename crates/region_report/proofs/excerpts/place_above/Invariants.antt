-- The place is the same from here, with as many lines as are left. For the loop of `place_above`.
use Rattle.std.proofs.Common.{◌≡◌, ◌≤◌, length}
use Rattle.report_spec.specs.Excerpts.{back, place_above}
use Rattle.region_report.proofs.excerpts.place_above.Given as goal

abbrev pub invariant-bytes : goal.invariant-bytes
invariant-bytes l = (l.place ≤ length l.text) × (back l.text l.place l.left ≡ place_above l.text l.at l.lines)

abbrev pub decreases-bytes : goal.decreases-bytes
decreases-bytes l = l.place
