-- The best of all is that of the best so far and those that are left. For the loop of `best`.
use Rattle.std.proofs.Common.{◌≡◌, drop, None}
use Rattle.memory_regions.specs.Choice.{best_from}
use Rattle.memory_regions.proofs.choosing.best.Given as goal

abbrev pub invariant-loop-reading : goal.invariant-loop-reading
invariant-loop-reading l = best_from None l.readings ≡ best_from l.best (drop l.reading-index l.readings)
