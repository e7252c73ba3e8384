-- The first `i` symbols of the reversed word stand after 16 zeros. For the loop of `reverse_into`.
use Rattle.std.proofs.Common.{◌≡◌, ◌<◌, ◌-◌, ◌+◌, ℕ, length, get_or}
use Rattle.rs_decode.proofs.euclid.reverse_into.Given as goal

abbrev pub invariant-loop-i : goal.invariant-loop-i
invariant-loop-i l = record {
  zeros : (k : ℕ) → k < 16 → get_or l.out k 0 ≡ 0;
  done : (k : ℕ) → k < l.i → get_or l.out (16 + k) 0 ≡ get_or l.word (length l.word - 1 - k) 0;
}
