-- The values below `k` have their term added, and `term` is the logarithm of the next. For the
-- loop of `add_terms`.
use Rattle.std.proofs.Common.{◌≡◌, ◌<◌, ◌≤◌, ℕ, get_or}
use Rattle.code_spec.specs.Field.{gf_add, gf_mul, gf_pow}
use Rattle.rs_decode.proofs.mending.add_terms.Given as goal

abbrev pub invariant-loop-k : goal.invariant-loop-k
invariant-loop-k l = record {
  below : l.term < 255;
  term : gf_pow 2 l.term ≡ gf_mul (gf_pow 2 l.mask_log) (gf_pow (gf_pow 2 l.power) l.k);
  done : (k : ℕ) → k < l.k → get_or l.values k 0
      ≡ gf_add (get_or l.fn.values k 0) (gf_mul (gf_pow 2 l.mask_log) (gf_pow (gf_pow 2 l.power) k));
  rest : (k : ℕ) → l.k ≤ k → get_or l.values k 0 ≡ get_or l.fn.values k 0;
}
