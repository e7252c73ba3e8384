-- the laws without conditions, over all numbers, and those with
use Rattle.std.proofs.Common.{◌≡◌, ℕ, ◌<◌, refl, sym, ap, ◌∙◌}
use Rattle.std.proofs.lemmas.Nat.{xor_lt}
use Rattle.code_laws.specs.Laws.{IsField, TwoHasOrder255}
use Rattle.code_laws.proofs.Powers.{order_least}
use Rattle.code_spec.specs.Field.{gf_add, gf_mul}
use Rattle.code_laws.proofs.Xor.{xor_comm, xor_assoc, xor_left_comm, xor_self, xor_cancel, xor_zero_r}
use Rattle.code_laws.proofs.Field.{mul_comm as gf_comm, mul_assoc as gf_assoc, mul_add as gf_mul_add}
use Rattle.code_laws.proofs.Field.{add_mul as gf_add_mul}
pub use Rattle.code_laws.proofs.Field.{mul_comm, mul_assoc}
pub use Rattle.code_laws.proofs.Powers.{
  mul_zero,
  one_mul,
  mul_below,
  pow_below,
  pow_add,
  pow_suc,
  pow_zero,
  pow_255,
  pow_distinct,
  mul_cancel_zero,
  inverse,
}
pub use Rattle.code_laws.proofs.Field.{mul_one}

pub add_comm : (a b : ℕ) → gf_add a b ≡ gf_add b a
unfolding gf_add
add_comm a b = xor_comm a b

pub add_assoc : (a b c : ℕ) → gf_add (gf_add a b) c ≡ gf_add a (gf_add b c)
unfolding gf_add
add_assoc a b c = xor_assoc a b c

pub add_left_comm : (a b c : ℕ) → gf_add a (gf_add b c) ≡ gf_add b (gf_add a c)
unfolding gf_add
add_left_comm a b c = xor_left_comm a b c

pub add_self : (a : ℕ) → gf_add a a ≡ 0
unfolding gf_add
add_self a = xor_self a

pub add_cancel : (a b : ℕ) → gf_add a (gf_add a b) ≡ b
unfolding gf_add
add_cancel a b = xor_cancel a b

pub zero_add : (a : ℕ) → gf_add 0 a ≡ a
unfolding gf_add
zero_add a = refl

pub add_zero : (a : ℕ) → gf_add a 0 ≡ a
unfolding gf_add
add_zero a = xor_zero_r a

pub mul_add : (a b c : ℕ) → gf_mul a (gf_add b c) ≡ gf_add (gf_mul a b) (gf_mul a c)
unfolding gf_add
mul_add a b c = gf_mul_add a b c

pub add_mul : (a b c : ℕ) → gf_mul (gf_add a b) c ≡ gf_add (gf_mul a c) (gf_mul b c)
unfolding gf_add
add_mul a b c = gf_add_mul a b c

pub add_below : (a b : ℕ) → a < 256 → b < 256 → gf_add a b < 256
unfolding gf_add
add_below a b h k = xor_lt 8 a b h k

pub mul_left_comm : (a b c : ℕ) → gf_mul a (gf_mul b c) ≡ gf_mul b (gf_mul a c)
mul_left_comm a b c = sym (gf_assoc a b c) ∙ ap (λ (x : ℕ). gf_mul x c) (gf_comm a b) ∙ gf_assoc b a c

pub zero_mul : (a : ℕ) → gf_mul 0 a ≡ 0
zero_mul a = gf_comm 0 a ∙ mul_zero a

-- two numbers whose sum is 0 are equal
pub equal_from_add : (a b : ℕ) → gf_add a b ≡ 0 → a ≡ b
equal_from_add a b e = sym (add_zero a) ∙ ap (gf_add a) (sym e) ∙ add_cancel a b

-- the multiple by 0 adds nothing
pub add_no_multiple : (a c b : ℕ) → c ≡ 0 → a ≡ gf_add a (gf_mul c b)
add_no_multiple a c b e =
    sym (ap (λ (x : ℕ). gf_add a (gf_mul x b)) e ∙ ap (gf_add a) (zero_mul b) ∙ add_zero a)

pub ruleset sums = (add_assoc, add_comm, add_left_comm, add_self, add_cancel, zero_add, add_zero)

pub ruleset ring = (
  mul_add,
  add_mul,
  mul_assoc,
  mul_comm,
  mul_left_comm,
  zero_mul,
  mul_zero,
  add_assoc,
  add_comm,
  add_left_comm,
  add_self,
  add_cancel,
  zero_add,
  add_zero,
)

pub is_field : IsField
is_field = record {
  add_below = add_below;
  add_comm = add_comm;
  add_assoc = add_assoc;
  add_zero = add_zero;
  add_self = add_self;
  mul_below = mul_below;
  mul_comm = mul_comm;
  mul_assoc = mul_assoc;
  mul_add =
      mul_add;
  mul_one = mul_one;
  inverse = inverse;
}

pub order_of_two : TwoHasOrder255
order_of_two = record { order = pow_255; order_least = order_least }
