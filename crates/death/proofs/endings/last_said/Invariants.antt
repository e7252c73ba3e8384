-- The last line that says something is among those from here, or the one so far. For the loop of `last_said`.
use Rattle.std.proofs.Common.{◌≡◌, ◌-◌, ◌+◌, length}
use Rattle.std.specs.Option.{option_or}
use Rattle.death_spec.specs.Lines.{lines_from}
use Rattle.death_spec.specs.Endings.{last_said}
use Rattle.death.proofs.endings.last_said.Given as goal

abbrev pub invariant-lines : goal.invariant-lines
invariant-lines l =
    last_said l.text (lines_from l.text 0) ≡ option_or (last_said l.text (lines_from l.text l.at)) l.last

abbrev pub decreases-lines : goal.decreases-lines
decreases-lines l = length l.text + 1 - l.at
