-- The symbols below `i` are sums, the rest stands as before. For the loop of `add_symbols`.
use Rattle.std.proofs.Common.{◌≡◌, ◌<◌, ◌≤◌, ℕ, get_or}
use Rattle.code_spec.specs.Field.{gf_add}
use Rattle.rs_decode.proofs.excess.add_symbols.Given as goal

abbrev pub invariant-loop-i : goal.invariant-loop-i
invariant-loop-i l = record {
  done : (k : ℕ) → k < l.i → get_or l.word k 0 ≡ gf_add (get_or l.fn.word k 0) (get_or l.other k 0);
  rest : (k : ℕ) → l.i ≤ k → get_or l.word k 0 ≡ get_or l.fn.word k 0;
}
