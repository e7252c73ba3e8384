-- The symbols below `i` have their multiple added, the rest stands as before. For the loop of
-- `add_shifted_multiple`.
use Rattle.std.proofs.Common.{◌≡◌, ◌<◌, ◌≤◌, ◌+◌, ℕ, get_or}
use Rattle.code_spec.specs.Field.{gf_add, gf_mul, gf_pow}
use Rattle.rs_decode.proofs.euclid.add_shifted_multiple.Given as goal

abbrev pub invariant-loop-i : goal.invariant-loop-i
invariant-loop-i l = record {
  done : (k : ℕ) → k + l.shift < l.i → get_or l.word k 0
      ≡ gf_add (get_or l.fn.word k 0) (gf_mul (get_or l.other (k + l.shift) 0) (gf_pow 2 l.power));
  rest : (k : ℕ) → l.i ≤ k + l.shift → get_or l.word k 0 ≡ get_or l.fn.word k 0;
}
