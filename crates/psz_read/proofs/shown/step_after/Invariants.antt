-- The divisor so far, with the marks left, is that of all. For the loop of `step_after`.
use Rattle.std.proofs.Common.{◌≡◌, drop}
use Rattle.psz_spec.specs.Marks.{step_after}
use Rattle.psz_read.proofs.shown.step_after.Given as goal

abbrev pub invariant-loop-mark : goal.invariant-loop-mark
invariant-loop-mark l =
    step_after l.kind l.step l.last (drop l.mark-index l.marks) ≡ step_after l.kind 0 l.first l.marks
