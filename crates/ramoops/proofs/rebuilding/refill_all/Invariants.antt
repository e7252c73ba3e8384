-- The zones of the first `i` logs are refilled. For the loop of `refill_all`.
use Rattle.std.proofs.Common.{take}
use Rattle.prz_read.specs.Saving.{saved}
use Rattle.ramoops.specs.Refilling.{RefillsAll}
use Rattle.ramoops.proofs.rebuilding.refill_all.Given as goal

abbrev pub invariant-loop-i : goal.invariant-loop-i
invariant-loop-i l = RefillsAll (take l.i (saved l.logs)) l.initial.live l.live
