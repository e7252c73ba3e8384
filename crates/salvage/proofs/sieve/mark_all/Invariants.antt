-- The pairs with each higher power so far are marked. For the loop of `mark_all`.
use Rattle.std.proofs.Common.{◌≡◌, ◌<◌, ◌≤◌, ℕ, length}
use Rattle.salvage.specs.Sieves.{AreMarked}
use Rattle.salvage.proofs.sieve.mark_all.Given as goal

abbrev pub invariant-loop-y : goal.invariant-loop-y
invariant-loop-y l = record {
  len : length l.marks ≡ 65536;
  pairs : (k : ℕ) → k < l.y → (x : ℕ) → l.low ≤ x → x < k → AreMarked l.marks x k;
}
