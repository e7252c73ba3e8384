-- The counts so far, and the next one. For the loop of `weight_at`.
use Rattle.std.proofs.Common.{◌≡◌, ◌<◌, ℕ, get_or, length}
use Rattle.salvage.specs.Sieves.{times_power}
use Rattle.salvage.proofs.sieve.weight_at.Given as goal

abbrev pub invariant-loop-i : goal.invariant-loop-i
invariant-loop-i l = record {
  next : l.count ≡ times_power l.others l.i l.power;
  done : (k : ℕ) → k < l.i → get_or l.counts k 0 ≡ times_power l.others k l.power;
  len : length l.counts ≡ 7;
}
