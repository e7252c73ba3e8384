-- The first `n` bytes are common to both lists. For the loop of `common_prefix`.
use Rattle.std.proofs.Common.{◌≡◌, ◌≤◌, ◌+◌, ◌-◌, length, drop, nat_eq}
use Rattle.std.specs.List.{common_prefix_len}
use Rattle.ramoops.proofs.report.common_prefix.Given as goal

abbrev pub invariant-loop-n : goal.invariant-loop-n
invariant-loop-n l = record {
  within_a : l.n ≤ length l.a;
  within_b : l.n ≤ length l.b;
  so_far : common_prefix_len nat_eq l.a l.b ≡ l.n + common_prefix_len nat_eq (drop l.n l.a) (drop l.n l.b);
}

abbrev pub decreases-loop-n : goal.decreases-loop-n
decreases-loop-n l = length l.a - l.n
