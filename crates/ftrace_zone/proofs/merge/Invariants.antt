-- The merged entries are those of both fronts, and the places lie in the lists. For the loop of
-- `merge`.
use Rattle.std.proofs.Common.{length, ◌+◌, ◌-◌, ◌≤◌}
use Rattle.ftrace_zone.proofs.MergeSteps.{IsMerged}
use Rattle.ftrace_zone.proofs.merge.Given as goal

abbrev pub invariant-loop-i : goal.invariant-loop-i
invariant-loop-i l = record {
  merged : IsMerged l.left l.right l.merged.items l.i l.j;
  in_left : l.i ≤ length l.left;
  in_right : l.j ≤ length l.right;
}

abbrev pub decreases-loop-i : goal.decreases-loop-i
decreases-loop-i l = (length l.left - l.i) + (length l.right - l.j)
