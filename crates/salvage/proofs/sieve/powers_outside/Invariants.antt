-- The product is zero at each unknown place outside the block so far. For the loop of `powers_outside`.
use Rattle.std.proofs.Common.{◌≡◌, ◌<◌, ◌≤◌, ◌-◌, ℕ, length, get_or, None}
use Rattle.salvage.specs.Sieves.{product, IsOutside}
use Rattle.salvage.proofs.sieve.powers_outside.Given as goal

abbrev pub invariant-loop-j : goal.invariant-loop-j
invariant-loop-j l = record {
  zero : (k : ℕ) → k < l.j → IsOutside l.from l.to k → get_or l.known k None ≡ None
      → product l.powers.items (l.places - 1 - k) ≡ 0;
  few : length l.powers.items ≤ l.j;
}
