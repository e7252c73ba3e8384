-- What was marked still is, and so are the sums with each second ratio so far. For the loop of `mark_pair`.
use Rattle.std.proofs.Common.{◌≡◌, ◌<◌, ◌+◌, ◌*◌, ℕ, get_or, length, true, false}
use Rattle.salvage.specs.Sieves.{third}
use Rattle.salvage.proofs.sieve.mark_pair.Given as goal

abbrev pub invariant-loop-i : goal.invariant-loop-i
invariant-loop-i l = record {
  len : length l.marks ≡ 65536;
  kept : (j : ℕ) → get_or l.fn.marks j false ≡ true → get_or l.marks j false ≡ true;
  done : (k : ℕ) → k < l.i → get_or l.marks (256 * k + third l.low l.high k) false ≡ true;
}
