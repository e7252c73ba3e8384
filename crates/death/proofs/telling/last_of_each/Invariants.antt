-- The last line of each kind is among those from here, or is the one so far. For the loop of `last_of_each`.
use Rattle.std.proofs.Common.{◌≡◌, ◌-◌, ◌+◌, length}
use Rattle.std.specs.Option.{option_or}
use Rattle.death_spec.specs.Lines.{lines_from}
use Rattle.death_spec.specs.Telling.{last_of, last_in, last_opening, last_oops, is_panic, is_warning}
use Rattle.death.proofs.telling.last_of_each.Given as goal

abbrev pub invariant-lines : goal.invariant-lines
invariant-lines l =
    (last_in l.text is_panic ≡ option_or (last_of l.text is_panic (lines_from l.text l.at)) l.panic)
    × (last_oops l.text ≡ option_or (last_opening l.text l.is_open (lines_from l.text l.at)) l.oops)
    × (last_in l.text is_warning ≡ option_or (last_of l.text is_warning (lines_from l.text l.at)) l.warning)

abbrev pub decreases-lines : goal.decreases-lines
decreases-lines l = length l.text + 1 - l.at
