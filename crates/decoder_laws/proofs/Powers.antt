-- Powers of 2 differ and are not zero, factors cancel, inverses are unique, and powers wrap at 255. For Chien's search,
-- Forney's formula, and the sums of logarithms in rs_decode.
use Rattle.std.proofs.Common.{◌≡◌, ◌≢◌, ℕ, zero, suc, ◌+◌, ◌≤◌, ◌<◌, sym, ap, ◌∙◌, arith, List, [], ◌∷◌, length, ◌⊎◌}
use Rattle.std.proofs.Common.{inl, inr}
use Rattle.code_spec.specs.Field.{gf_add, gf_mul, gf_pow}
use Rattle.code_laws.proofs.Ring.{mul_comm, mul_one, mul_below, add_below, mul_cancel_zero, pow_suc, pow_zero}
use Rattle.code_laws.proofs.Ring.{pow_below, ring, add_self, mul_add, one_mul, equal_from_add, pow_add, pow_distinct}
use Rattle.code_laws.proofs.Ring.{pow_255, mul_assoc}
use Rattle.code_spec.specs.Code.{value_of}
use Rattle.std.proofs.lemmas.Bool.{cases_lt}

pub pow_some : (X j : ℕ) → X < 256 → X ≢ 0 → gf_pow X j ≢ 0
pow_some X zero b n e = absurd (let f : 1 ≡ 0 = sym (pow_zero X) ∙ e in cc)
pow_some X (suc j) b n e = pow_some X j b n (mul_cancel_zero X (gf_pow X j) b n (pow_below X j) (sym (pow_suc X j) ∙ e))

pub add_some : (i j : ℕ) → i < 255 → j < 255 → i ≢ j → gf_add (gf_pow 2 i) (gf_pow 2 j) ≢ 0
add_some i j bi bj n e = go (cases_lt i j) (equal_from_add (gf_pow 2 i) (gf_pow 2 j) e)
  where
    go : (i < j) ⊎ (j ≤ i) → gf_pow 2 i ≢ gf_pow 2 j
    go (inl l) e = pow_distinct i j l bj e
    go (inr l) e = pow_distinct j i (omega arith) bi (sym e)

pub power_some : (j k : ℕ) → gf_pow (gf_pow 2 j) k ≢ 0
power_some j k = pow_some (gf_pow 2 j) k (pow_below 2 j) (pow_some 2 j (omega arith) (λ e. absurd (omega arith)))

pub cancel_equal : (a b x : ℕ) → a < 256 → b < 256 → x < 256 → x ≢ 0 → gf_mul x a ≡ gf_mul x b → a ≡ b
cancel_equal a b x ba bb bx n e =
    equal_from_add a b (mul_cancel_zero x (gf_add a b) bx n (add_below a b ba bb)
    (mul_add x a b ∙ ap (λ (y : ℕ). gf_add y (gf_mul x b)) e ∙ add_self (gf_mul x b)))

pub value_below : (w : List ℕ) (x : ℕ) → value_of w x < 256
unfolding value_of
value_below [] x = omega arith
value_below (c ∷ w) x = add_below (gf_mul c (gf_pow x (length w))) (value_of w x) (mul_below c (gf_pow x (length w)))
    (value_below w x)

-- inverses are unique
pub inverse_is_unique : (a x y : ℕ) → x < 256 → y < 256 → gf_mul a x ≡ 1 → gf_mul a y ≡ 1 → x ≡ y
inverse_is_unique a x y bx by ex ey =
    sym (mul_one x bx) ∙ ap (gf_mul x) (sym ey) ∙ sym (mul_assoc x a y)
    ∙ ap (λ (z : ℕ). gf_mul z y) (mul_comm x a ∙ ex) ∙ one_mul y by

-- ---- sums of logarithms
pub pow_wrapped : (a b s : ℕ) → s + 255 ≡ a + b → gf_pow 2 s ≡ gf_mul (gf_pow 2 a) (gf_pow 2 b)
pow_wrapped a b s e =
    sym (one_mul (gf_pow 2 s) (pow_below 2 s)) ∙ ap (λ (x : ℕ). gf_mul x (gf_pow 2 s)) (sym pow_255)
    ∙ sym (pow_add 2 255 s) ∙ ap (gf_pow 2) (let f : 255 + s ≡ a + b = omega arith in f) ∙ pow_add 2 a b

pub pow_term_step : (m p k t t' : ℕ) → gf_pow 2 t ≡ gf_mul m (gf_pow p k) → gf_pow 2 t' ≡ gf_mul (gf_pow 2 t) p
    → gf_pow 2 t' ≡ gf_mul m (gf_pow p (k + 1))
pow_term_step m p k t t' e e' =
    e' ∙ ap (λ (x : ℕ). gf_mul x p) e ∙ alg m (gf_pow p k) p ∙ ap (gf_mul m) (sym (pow_suc p k))
    ∙ ap (λ (j : ℕ). gf_mul m (gf_pow p j)) (let f : suc k ≡ k + 1 = omega arith in f)
  where
    alg : (m q p : ℕ) → gf_mul (gf_mul m q) p ≡ gf_mul m (gf_mul p q)
    alg m q p = simp ring
