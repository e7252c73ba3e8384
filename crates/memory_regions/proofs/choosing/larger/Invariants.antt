-- None so far is a rival. For the loop of `larger`.
use Rattle.std.proofs.Common.{◌≡◌, drop}
use Rattle.std.specs.List.{find}
use Rattle.memory_regions.specs.Choice.{is_rival}
use Rattle.memory_regions.proofs.choosing.larger.Given as goal

abbrev pub invariant-loop-reading : goal.invariant-loop-reading
invariant-loop-reading l = find (is_rival l.best) l.readings ≡ find (is_rival l.best) (drop l.reading-index l.readings)
