-- The lines from here on change what was found so far into what is found at the end. For the loop of `last_two`.
use Rattle.std.proofs.Common.{◌≡◌, ◌-◌, ◌+◌, length}
use Rattle.std.specs.Prelude.{None}
use Rattle.death_spec.specs.Lines.{lines_from}
use Rattle.death_spec.specs.Reports.{last_two}
use Rattle.death.proofs.messages.last_two.Given as goal

abbrev pub invariant-lines : goal.invariant-lines
invariant-lines l =
    last_two l.text (record { upper = None; lower = None }) (lines_from l.text 0)
    ≡ last_two l.text l.found (lines_from l.text l.at)

abbrev pub decreases-lines : goal.decreases-lines
decreases-lines l = length l.text + 1 - l.at
