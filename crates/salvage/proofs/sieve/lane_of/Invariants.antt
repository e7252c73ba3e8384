-- The lane has the first `k` products, the first one highest. For the loop of `lane_of`.
use Rattle.std.proofs.Common.{◌≡◌, ◌+◌, ℕ, suc, get_or}
use Rattle.rs_encode.specs.Lanes.{digit}
use Rattle.code_spec.specs.Field.{gf_mul}
use Rattle.salvage.proofs.sieve.lane_of.Given as goal

abbrev pub invariant-loop-k : goal.invariant-loop-k
invariant-loop-k l = (k p : ℕ) → k + suc p ≡ l.k → digit l.lane p ≡ gf_mul l.factor (get_or l.counts k 0)
