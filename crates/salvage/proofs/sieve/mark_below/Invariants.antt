-- What was marked still is, and so are the pairs with each lower power so far. For the loop of `mark_below`.
use Rattle.std.proofs.Common.{◌≡◌, ◌<◌, ◌≤◌, ℕ, get_or, length, true, false}
use Rattle.salvage.specs.Sieves.{AreMarked}
use Rattle.salvage.proofs.sieve.mark_below.Given as goal

abbrev pub invariant-loop-x : goal.invariant-loop-x
invariant-loop-x l = record {
  len : length l.marks ≡ 65536;
  kept : (j : ℕ) → get_or l.fn.marks j false ≡ true → get_or l.marks j false ≡ true;
  pairs : (k : ℕ) → k < l.x → l.low ≤ k → AreMarked l.marks k l.high;
}
