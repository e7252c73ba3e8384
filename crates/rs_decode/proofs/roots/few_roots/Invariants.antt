-- The terms are the locator's at the block's first place; the roots so far, and those of the places left, are the
-- roots. For the loop of `few_roots`.
use Rattle.std.proofs.Common.{◌≡◌, ◌≤◌, ◌<◌, ◌+◌, ◌-◌, ◌*◌, ◌++◌, ℕ, length, get_or, take}
use Rattle.code_spec.specs.Field.{gf_mul, gf_pow}
use Rattle.decoder_laws.specs.Chien.{roots_of}
use Rattle.rs_decode.proofs.roots.few_roots.Given as goal

abbrev pub invariant-loop-block : goal.invariant-loop-block
invariant-loop-block l = record {
  len : length l.terms ≡ length l.locator;
  terms : (i : ℕ) → i < length l.locator → get_or l.terms i 0 ≡ gf_mul (get_or l.locator i 0)
      (gf_pow 2 ((256 - l.places + 16 * l.block) * (length l.locator - 1 - i)));
  few : l.count ≤ length l.locator + 14;
  room : length l.found ≡ 32;
  roots : take l.count l.found ++ roots_of l.locator (l.places - 16 * l.block) ≡ roots_of l.locator l.places;
}
