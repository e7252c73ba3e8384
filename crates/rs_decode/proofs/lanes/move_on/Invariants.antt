-- The symbols below `i` are moved on, the rest stands as before. For the loop of `move_on`.
use Rattle.std.proofs.Common.{◌≡◌, ◌<◌, ◌≤◌, ◌-◌, ◌*◌, ℕ, length, get_or}
use Rattle.code_spec.specs.Field.{gf_mul, gf_pow}
use Rattle.rs_decode.proofs.lanes.move_on.Given as goal

abbrev pub invariant-loop-i : goal.invariant-loop-i
invariant-loop-i l = record {
  len : length l.word ≡ length l.fn.word;
  done : (k : ℕ) → k < l.i → get_or l.word k 0
      ≡ gf_mul (get_or l.fn.word k 0) (gf_pow 2 (16 * (length l.fn.word - 1 - k)));
  rest : (k : ℕ) → l.i ≤ k → get_or l.word k 0 ≡ get_or l.fn.word k 0;
}
