-- No offset begins below `at`, and the name of one that begins here would begin at `start`. For the loop of
-- `named_from`.
use Rattle.std.proofs.Common.{◌≡◌, ◌≤◌, ◌-◌, length, drop}
use Rattle.death_spec.specs.Reports.{named_from}
use Rattle.death.proofs.reports.named_from.Given as goal

abbrev pub invariant-bytes : goal.invariant-bytes
invariant-bytes l =
    (l.start ≤ l.at)
    × (named_from l.from l.from (drop l.from l.words) ≡ named_from l.at l.start (drop l.at l.words))

abbrev pub decreases-bytes : goal.decreases-bytes
decreases-bytes l = length l.words - l.at
