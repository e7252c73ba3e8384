-- The number so far, of the digits so far. For the loop of `seconds`.
use Rattle.std.proofs.Common.{◌≡◌, ◌<◌, ◌-◌, length, drop}
use Rattle.report_spec.specs.Facts.{seconds_from}
use Rattle.region_report.proofs.facts.seconds.Given as goal

abbrev pub invariant-digits : goal.invariant-digits
invariant-digits l =
    (l.seconds < 1_000_000_000_000) × (seconds_from 0 l.bytes ≡ seconds_from l.seconds (drop l.at l.bytes))

abbrev pub decreases-digits : goal.decreases-digits
decreases-digits l = length l.bytes - l.at
