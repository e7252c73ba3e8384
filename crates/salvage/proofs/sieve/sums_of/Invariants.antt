-- What the places so far and those left count together is the whole. For the loop of `sums_of`.
use Rattle.std.proofs.Common.{◌≡◌, ◌+◌, ℕ, List, drop, length}
use Rattle.code_spec.specs.Field.{gf_add}
use Rattle.rs_encode.specs.Lanes.{digit}
use Rattle.salvage.specs.declared.sieve.Weight.{Weight}
use Rattle.salvage.specs.Sieves.{AreRows, sum_at}
use Rattle.salvage.proofs.sieve.sums_of.Given as goal

abbrev pub invariant-loop-k : goal.invariant-loop-k
invariant-loop-k l = (gs : List Weight) → length gs ≡ length l.word → AreRows gs l.rows → (i p : ℕ) → i + p ≡ 15
    → gf_add (digit l.sums p) (sum_at i (drop l.k gs) (drop l.k l.word) (drop l.k l.base)) ≡ sum_at i gs l.word l.base
