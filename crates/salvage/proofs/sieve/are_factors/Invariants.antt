-- The sums so far are zero. For the loop of `are_factors`.
use Rattle.std.proofs.Common.{◌≡◌, ◌<◌, ℕ}
use Rattle.std.specs.Prelude.{slice_index}
use Rattle.salvage.specs.Sieves.{dot}
use Rattle.salvage.proofs.sieve.are_factors.Given as goal

abbrev pub invariant-loop-l : goal.invariant-loop-l
invariant-loop-l v = (k : ℕ) → k < v.l → dot v.factors (slice_index v.sums) k ≡ 0
