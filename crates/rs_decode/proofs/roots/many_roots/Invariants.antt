-- The roots so far, and those of the places left, are the roots; the block's values stand ready.
-- For the loop of `many_roots`.
use Rattle.std.proofs.Common.{◌≡◌, ◌≢◌, ◌≤◌, ◌<◌, ◌+◌, ◌-◌, ◌*◌, ◌/◌, ◌%◌, ◌++◌, ℕ, length, get_or, take}
use Rattle.code_spec.specs.Field.{gf_pow}
use Rattle.code_spec.specs.Code.{value_of}
use Rattle.decoder_laws.specs.Chien.{roots_of}
use Rattle.rs_decode.proofs.roots.many_roots.Given as goal

abbrev pub invariant-loop-place : goal.invariant-loop-place
invariant-loop-place l = record {
  len : length l.powers.items ≤ length l.locator - 1;
  all : take (length l.locator - 1) (l.powers.items ++ roots_of l.locator (l.places - l.place))
      ≡ take (length l.locator - 1) (roots_of l.locator l.places);
  ready : l.place % 64 ≢ 0 → (j : ℕ) → j < 64
      → get_or l.values j 0 ≡ value_of l.locator (gf_pow 2 (256 - l.places + l.place / 64 * 64 + j));
}
