-- The entry to blame is among those from here. For the loop of `blamed_below`.
use Rattle.std.proofs.Common.{◌≡◌, ◌-◌, ◌+◌, length}
use Rattle.death_spec.specs.Traces.{entries, to_blame}
use Rattle.death.proofs.traces.blamed_below.Given as goal

abbrev pub invariant-entries : goal.invariant-entries
invariant-entries l =
    to_blame l.text l.fn.hangs (entries l.text l.from) ≡ to_blame l.text l.fn.hangs (entries l.text l.at)

abbrev pub decreases-entries : goal.decreases-entries
decreases-entries l = length l.text + 1 - l.at
