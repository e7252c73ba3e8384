-- The number so far, of the digits so far. For the loop of `stamp_number`.
use Rattle.std.proofs.Common.{◌≡◌, ◌<◌, ◌-◌, length, drop}
use Rattle.report_spec.specs.Mending.{digits_from}
use Rattle.region_report.proofs.same_lines.stamp_number.Given as goal

abbrev pub invariant-digits : goal.invariant-digits
invariant-digits l =
    (l.number < 1_000_000_000_000) × (digits_from 0 l.stamp ≡ digits_from l.number (drop l.at l.stamp))

abbrev pub decreases-digits : goal.decreases-digits
decreases-digits l = length l.stamp - l.at
