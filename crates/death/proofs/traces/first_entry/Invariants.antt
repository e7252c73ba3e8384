-- The entries from here are all of them. For the loop of `first_entry`.
use Rattle.std.proofs.Common.{◌≡◌, ◌≤◌, ◌-◌, ◌+◌, length}
use Rattle.death_spec.specs.Traces.{entries}
use Rattle.death.proofs.traces.first_entry.Given as goal

abbrev pub invariant-lines : goal.invariant-lines
invariant-lines l = (l.from ≤ l.at) × (entries l.text l.from ≡ entries l.text l.at)

abbrev pub decreases-lines : goal.decreases-lines
decreases-lines l = length l.text + 1 - l.at
