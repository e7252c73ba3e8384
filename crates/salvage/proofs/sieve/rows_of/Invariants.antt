-- The rows so far are the multiples of their place's counts. For the loop of `rows_of`.
use Rattle.std.proofs.Common.{◌≡◌, ◌<◌, ◌/◌, ℕ, get_or, length}
use Rattle.rs_encode.specs.Lanes.{IsMultiple}
use Rattle.salvage.specs.Sieves.{none, factor_of}
use Rattle.salvage.proofs.sieve.rows_of.Given as goal

abbrev pub invariant-loop-i : goal.invariant-loop-i
invariant-loop-i l = record {
  done : (j : ℕ) → j < l.i → IsMultiple (factor_of j) (get_or l.weights (j / 32) none).counts (get_or l.rows.items j 0);
  len : length l.rows.items ≡ 512;
}
