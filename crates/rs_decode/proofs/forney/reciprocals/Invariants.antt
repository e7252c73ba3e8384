-- The logarithms below `k` are those of the reciprocals. For the loop of `reciprocals`.
use Rattle.std.proofs.Common.{◌≡◌, ◌<◌, ◌-◌, ℕ, get_or}
use Rattle.rs_decode.proofs.forney.reciprocals.Given as goal

abbrev pub invariant-loop-k : goal.invariant-loop-k
invariant-loop-k l = (j : ℕ) → j < l.k → get_or l.logs j 0 ≡ 255 - get_or l.powers j 0
