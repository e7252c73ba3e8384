-- The weights so far are those of their powers. For the loop of `weights_of`.
use Rattle.std.proofs.Common.{◌≡◌, ◌<◌, ◌-◌, ℕ, get_or, length}
use Rattle.salvage.specs.Sieves.{IsWeight, none}
use Rattle.salvage.proofs.sieve.weights_of.Given as goal

abbrev pub invariant-loop-k : goal.invariant-loop-k
invariant-loop-k l = record {
  done : (i : ℕ) → i < l.k → IsWeight l.others (l.power - i) (get_or l.weights i none);
  len : length l.weights ≡ 16;
}
