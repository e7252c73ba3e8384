-- Powers of 2 in the field: 2 has order 255, and each byte but 0 has an inverse
use Rattle.std.proofs.Common.{◌≡◌, ◌≢◌, ℕ, zero, suc, ◌+◌, ◌-◌, ◌*◌, ◌/◌, ◌%◌, ◌^◌, ◌<◌, ◌≤◌, refl, sym, ap, ◌∙◌, subst}
use Rattle.std.proofs.Common.{arith, inl, inr, Bool, true, false, ◌&&◌, not, eqb, ltb, suc-add, zero-add, pow-suc}
use Rattle.std.proofs.Common.{div-lt_iff_lt-mul, mod-lt, mul_comm, zero-mul, one-mul}
use Rattle.std.proofs.lemmas.Bool.Decides.{Decides-eqb, Decides-ltb}
use Rattle.std.proofs.lemmas.Nat.{xor_lt, pow_pos, shr_split}
use Rattle.std.proofs.lemmas.Bool.{and_parts}
use Rattle.code_spec.specs.Field.{gf_mul, gf_pow}
use Rattle.code_laws.proofs.Xor.{IsAdditive, additive_zero, top_bit, below_two}
use Rattle.code_laws.proofs.Field.{mul_comm as gf_comm, mul_assoc as gf_assoc, mul_one, additive_l, additive_r}
use Rattle.code_laws.proofs.Field.{mul_low_l, mul_low_r, below, checked}

additive_below : (f : ℕ → ℕ) → IsAdditive f → (k : ℕ) → ((i : ℕ) → i < k → f (2 ^ i) < 2 ^ 8) → (a : ℕ) → a < 2 ^ k
    → f a < 2 ^ 8
additive_below f hf zero e a l = let z : a ≡ 0 = omega arith in rw z (rw (additive_zero f hf) (omega arith))
additive_below f hf (suc k) e a l =
    let below : a < 2 ^ k * 2 = rw pow-suc at l in
    let q : a / 2 ^ k < 2 = (div-lt_iff_lt-mul (pow_pos k)).1 (omega (arith, mul_comm (2 ^ k) 2)) in
    let r : a % 2 ^ k < 2 ^ k = mod-lt a (pow_pos k) in
    let here : f (a / 2 ^ k * 2 ^ k) < 2 ^ 8 = elim (below_two (a / 2 ^ k) q) [
      | inl z ↦ rw (z, zero-mul) (rw (additive_zero f hf) (omega arith))
      | inr o ↦ rw (o, one-mul) (e k (omega arith))
    ] in
    let rest : f (a % 2 ^ k) < 2 ^ 8 = additive_below f hf k (λ i h. e i (omega arith)) (a % 2 ^ k) r in
    subst (λ (x : ℕ). f x < 2 ^ 8) (shr_split a k) (rw (top_bit f k (a / 2 ^ k) (a % 2 ^ k) hf r)
    (xor_lt 8 _ _ here rest))

below_test : below (λ i. below (λ j. ltb (gf_mul (2 ^ i) (2 ^ j)) 256) 8) 8 ≡ true
unfolding gf_mul
below_test = refl

pub mul_below : (a b : ℕ) → gf_mul a b < 256
mul_below a b =
    rw (← mul_low_l a b) (rw (← mul_low_r (a % 256) b)
    (additive_below (λ x. gf_mul x (b % 256)) (additive_l (b % 256)) 8
    (λ i hi. additive_below (λ x. gf_mul (2 ^ i) x) (additive_r (2 ^ i)) 8
    (λ j hj. (Decides-ltb (gf_mul (2 ^ i) (2 ^ j)) 256).0
    (checked (λ y. ltb (gf_mul (2 ^ i) (2 ^ y)) 256) 8
    (checked (λ x. below (λ y. ltb (gf_mul (2 ^ x) (2 ^ y)) 256) 8) 8 below_test i hi) j hj))
    (b % 256) (omega arith))
    (a % 256) (omega arith)))

pub pow_below : (x n : ℕ) → gf_pow x n < 256
unfolding gf_pow
pow_below x zero = omega arith
pow_below x (suc n) = mul_below x (gf_pow x n)

pub pow_suc : (x n : ℕ) → gf_pow x (suc n) ≡ gf_mul x (gf_pow x n)
unfolding gf_pow
pow_suc x n = refl

pub pow_zero : (x : ℕ) → gf_pow x 0 ≡ 1
unfolding gf_pow
pow_zero x = refl

pub one_mul : (a : ℕ) → a < 256 → gf_mul 1 a ≡ a
one_mul a h = gf_comm 1 a ∙ mul_one a h

pub pow_add : (x m n : ℕ) → gf_pow x (m + n) ≡ gf_mul (gf_pow x m) (gf_pow x n)
pow_add x zero n = rw (zero-add n, pow_zero x) (sym (one_mul (gf_pow x n) (pow_below x n)))
pow_add x (suc m) n = rw (suc-add m n, pow_suc x (m + n), pow_suc x m)
    (ap (gf_mul x) (pow_add x m n) ∙ sym (gf_assoc x (gf_pow x m) (gf_pow x n)))

pub pow_255 : gf_pow 2 255 ≡ 1
unfolding gf_pow gf_mul
pow_255 = refl

-- the factor 2 goes over to the power
pub pow_double : (k x : ℕ) → gf_mul (gf_pow 2 k) (gf_mul 2 x) ≡ gf_mul (gf_pow 2 (suc k)) x
pow_double k x = sym (gf_assoc (gf_pow 2 k) 2 x)
    ∙ ap (λ (y : ℕ). gf_mul y x) (gf_comm (gf_pow 2 k) 2 ∙ sym (pow_suc 2 k))

not_true : (b : Bool) → not b ≡ true → b ≡ true → ⊥
not_true true e h = cc
not_true false e h = cc

-- of x, 2 x, 4 x and so on, n of them, none is 1
none_is_one : ℕ → ℕ → Bool
none_is_one zero x = true
none_is_one (suc n) x = not (eqb x 1) && none_is_one n (gf_mul 2 x)

none_at : (n x k : ℕ) → x < 256 → none_is_one n x ≡ true → k < n → gf_mul (gf_pow 2 k) x ≢ 1
unfolding none_is_one
none_at zero x k b e l h = absurd (omega arith)
none_at (suc n) x zero b e l h =
    not_true (eqb x 1) (and_parts (not (eqb x 1)) (none_is_one n (gf_mul 2 x)) e).0
    ((Decides-eqb x 1).1 (sym (one_mul x b) ∙ ap (λ (y : ℕ). gf_mul y x) (sym (pow_zero 2)) ∙ h))
none_at (suc n) x (suc k) b e l h =
    none_at n (gf_mul 2 x) k (mul_below 2 x) (and_parts (not (eqb x 1)) (none_is_one n (gf_mul 2 x)) e).1 (omega arith)
    (pow_double k x ∙ h)

none_test : none_is_one 254 2 ≡ true
unfolding none_is_one gf_mul
none_test = refl

pub order_least : (k : ℕ) → 0 < k → k < 255 → gf_pow 2 k ≢ 1
order_least zero p l e = absurd (omega arith)
order_least (suc k) p l e =
    none_at 254 2 k (omega arith) none_test (omega arith) (gf_comm (gf_pow 2 k) 2 ∙ sym (pow_suc 2 k) ∙ e)

-- 2 to the k has an inverse
pub pow_inverse : (k : ℕ) → k ≤ 255 → gf_mul (gf_pow 2 k) (gf_pow 2 (255 - k)) ≡ 1
pow_inverse k l = sym (pow_add 2 k (255 - k)) ∙ ap (gf_pow 2) (omega arith) ∙ pow_255

-- the product of x, of its square, of the square of that and so on, n of them
squares : ℕ → ℕ → ℕ
squares zero x = 1
squares (suc n) x = gf_mul x (squares n (gf_mul x x))

-- a to the 254
reciprocal : ℕ → ℕ
reciprocal a = squares 7 (gf_mul a a)

reciprocal_below : (a : ℕ) → reciprocal a < 256
unfolding reciprocal squares
reciprocal_below a = mul_below (gf_mul a a) (squares 6 (gf_mul (gf_mul a a) (gf_mul a a)))

reciprocal_test : below (λ a. eqb (gf_mul (suc a) (reciprocal (suc a))) 1) 255 ≡ true
unfolding reciprocal squares gf_mul
reciprocal_test = refl

pub inverse : (a : ℕ) → a < 256 → a ≢ 0 → (b : ℕ) × (b < 256) × (gf_mul a b ≡ 1)
inverse zero l n = absurd (n refl)
inverse (suc a) l n = (
  reciprocal (suc a),
  reciprocal_below (suc a),
  (Decides-eqb (gf_mul (suc a) (reciprocal (suc a))) 1).0
      (checked (λ x. eqb (gf_mul (suc x) (reciprocal (suc x))) 1) 255 reciprocal_test a (omega arith)),
)

pub mul_zero : (a : ℕ) → gf_mul a 0 ≡ 0
mul_zero a = additive_zero (λ x. gf_mul a x) (additive_r a)

-- no zero divisors
pub mul_cancel_zero : (a b : ℕ) → a < 256 → a ≢ 0 → b < 256 → gf_mul a b ≡ 0 → b ≡ 0
mul_cancel_zero a b l n l' e =
    let i = inverse a l n in
    sym (one_mul b l') ∙ ap (λ (x : ℕ). gf_mul x b) (sym i.2 ∙ gf_comm a i.0) ∙ gf_assoc i.0 a b ∙ ap (gf_mul i.0) e
    ∙ mul_zero i.0

pub pow_distinct : (i j : ℕ) → i < j → j < 255 → gf_pow 2 i ≢ gf_pow 2 j
pow_distinct i j l l' e =
    order_least (j - i) (omega arith) (omega arith)
    (sym (one_mul (gf_pow 2 (j - i)) (pow_below 2 (j - i)))
    ∙ ap (λ (x : ℕ). gf_mul x (gf_pow 2 (j - i))) (sym (pow_inverse i (omega arith))
    ∙ gf_comm (gf_pow 2 i) (gf_pow 2 (255 - i)))
    ∙ gf_assoc (gf_pow 2 (255 - i)) (gf_pow 2 i) (gf_pow 2 (j - i))
    ∙ ap (gf_mul (gf_pow 2 (255 - i))) (sym (pow_add 2 i (j - i)) ∙ ap (gf_pow 2) (omega arith) ∙ sym e)
    ∙ gf_comm (gf_pow 2 (255 - i)) (gf_pow 2 i) ∙ pow_inverse i (omega arith))
