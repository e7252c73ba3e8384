-- What makes the bytes a field, and 2 a generator of it
use Rattle.std.specs.Prelude.{ℕ, ◌≡◌, ◌≢◌, ◌<◌}
use Rattle.code_spec.specs.Field.{gf_add, gf_mul, gf_pow}

-- each byte is its own negative
pub record IsField : Type 0 where
  pub add_below : (a b : ℕ) → a < 256 → b < 256 → gf_add a b < 256
  pub add_comm : (a b : ℕ) → gf_add a b ≡ gf_add b a
  pub add_assoc : (a b c : ℕ) → gf_add (gf_add a b) c ≡ gf_add a (gf_add b c)
  pub add_zero : (a : ℕ) → gf_add a 0 ≡ a
  pub add_self : (a : ℕ) → gf_add a a ≡ 0
  pub mul_below : (a b : ℕ) → gf_mul a b < 256
  pub mul_comm : (a b : ℕ) → gf_mul a b ≡ gf_mul b a
  pub mul_assoc : (a b c : ℕ) → gf_mul (gf_mul a b) c ≡ gf_mul a (gf_mul b c)
  pub mul_add : (a b c : ℕ) → gf_mul a (gf_add b c) ≡ gf_add (gf_mul a b) (gf_mul a c)
  pub mul_one : (a : ℕ) → a < 256 → gf_mul a 1 ≡ a
  pub inverse : (a : ℕ) → a < 256 → a ≢ 0 → (b : ℕ) × (b < 256) × (gf_mul a b ≡ 1)

-- 2 has order 255
pub record TwoHasOrder255 : Type 0 where
  pub order : gf_pow 2 255 ≡ 1
  pub order_least : (k : ℕ) → 0 < k → k < 255 → gf_pow 2 k ≢ 1
