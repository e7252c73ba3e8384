-- The values, with the terms of the fixes that are left, are those of the word with all fixes. For
-- the loop of `add_fixes`.
use Rattle.std.proofs.Common.{◌≡◌, ◌<◌, ◌+◌, ℕ, get_or, length, drop}
use Rattle.code_spec.specs.Field.{gf_add, gf_pow}
use Rattle.rs_decode.specs.Fixes.{AllInside, fix_sum}
use Rattle.rs_decode.proofs.mending.add_fixes.Given as goal

abbrev pub invariant-loop-fix : goal.invariant-loop-fix
invariant-loop-fix l = record {
  inside : AllInside l.places (drop l.fix-index l.fixes);
  sums : (k : ℕ) → k < length l.values
      → gf_add (get_or l.values k 0) (fix_sum l.places (drop l.fix-index l.fixes) (gf_pow 2 (l.first + k)))
      ≡ gf_add (get_or l.fn.values k 0) (fix_sum l.places l.fixes (gf_pow 2 (l.first + k)));
}
