-- The report that is open, and the last one that counts, are those of the lines above, as the lines from here go
-- on. For the loop of `walk`.
use Rattle.std.proofs.Common.{◌≡◌, ◌-◌, ◌+◌, length}
use Rattle.std.specs.Prelude.{None}
use Rattle.std.specs.Option.{option_or}
use Rattle.death_spec.specs.Lines.{lines_from}
use Rattle.death_spec.specs.Causes.{open_below, last_found}
use Rattle.death.proofs.causes.walk.Given as goal

abbrev pub invariant-lines : goal.invariant-lines
invariant-lines l =
    (open_below l.text None (lines_from l.text 0) ≡ open_below l.text l.opened (lines_from l.text l.at))
    × (last_found l.text l.fn.cause None (lines_from l.text 0)
    ≡ option_or (last_found l.text l.fn.cause l.opened (lines_from l.text l.at)) l.last)

abbrev pub decreases-lines : goal.decreases-lines
decreases-lines l = length l.text + 1 - l.at
