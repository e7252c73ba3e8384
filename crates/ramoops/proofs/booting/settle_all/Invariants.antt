-- The first `i` spans have their boot stores, the others stand as before. For the loop of
-- `settle_all`.
use Rattle.ramoops_layout.specs.Laid.{zones_of}
use Rattle.ramoops.specs.Booting.{SettlesTo}
use Rattle.ramoops.proofs.booting.settle_all.Given as goal

abbrev pub invariant-loop-i : goal.invariant-loop-i
invariant-loop-i l = SettlesTo (zones_of l.layout) l.initial.spans l.spans l.i
