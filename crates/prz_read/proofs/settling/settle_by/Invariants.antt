-- The stores handed out so far are made up to the limit, and each turn leaves fewer. For the loop of `settle_by`.
use Rattle.std.proofs.Common.{◌+◌, length}
use Rattle.prz_region.specs.CutRegion.{span}
use Rattle.zone_boot.specs.Booting.{left_of}
use Rattle.prz_read.specs.Sources.{rank}
use Rattle.prz_read.specs.Steps.{IsSettling}
use Rattle.prz_read.proofs.settling.settle_by.Given as goal

abbrev pub invariant-loop-tail : goal.invariant-loop-tail
invariant-loop-tail l = IsSettling l.zone (span l.initial.spans l.i) l.initial.spans l.i l.limit l.initial.boot.count
    l.initial.boot.erasure l.boot l.spans

abbrev pub decreases-loop-tail : goal.decreases-loop-tail
decreases-loop-tail l = length (left_of l.boot (span l.spans l.i)) + rank l.boot
