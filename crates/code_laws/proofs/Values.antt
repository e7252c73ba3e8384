-- The values of a word as symbols come to its end, after a value that stands for what came before. For the loops of
-- gf_poly: `values_on`, `rising_values_on`, `values_at`, `rising_values` and `syndromes`.
use Rattle.std.proofs.Common.{◌≡◌, ℕ, ◌+◌, ◌<◌, List, [], ◌++◌, length, get_or, take, take_all, sym, ◌∙◌, ap, ap₂}
use Rattle.std.proofs.Common.{arith, add-one}
use Rattle.std.proofs.lemmas.List.{take_more}
use Rattle.code_spec.specs.Field.{gf_add, gf_mul, gf_pow}
use Rattle.code_laws.proofs.Ring.{ring, pow_zero, pow_suc, mul_one, add_zero, zero_add, zero_mul}
use Rattle.code_spec.specs.Code.{value_of}
use Rattle.code_laws.proofs.Words.{value_of-nil, value_of-push, value_of-append}

-- no symbol has come
pub values_begun : (v x : ℕ) → v < 256 → v ≡ gf_add (gf_mul v (gf_pow x 0)) (value_of [] x)
values_begun v x b = sym (ap₂ gf_add (ap (gf_mul v) (pow_zero x) ∙ mul_one v b) (value_of-nil x) ∙ add_zero v)

alg : (s p v x c : ℕ) → gf_add (gf_mul (gf_add (gf_mul s p) v) x) c
    ≡ gf_add (gf_mul s (gf_mul x p)) (gf_add (gf_mul v x) c)
alg s p v x c = simp ring

-- one more symbol at the end
pub values_step : (s x i v : ℕ) (w : List ℕ) → i < length w → get_or w i 0 < 256 → x < 256
    → v ≡ gf_add (gf_mul s (gf_pow x i)) (value_of (take i w) x)
    → gf_add (gf_mul v x) (get_or w i 0) ≡ gf_add (gf_mul s (gf_pow x (i + 1))) (value_of (take (i + 1) w) x)
values_step s x i v w l b bx e =
    ap (λ (y : ℕ). gf_add (gf_mul y x) (get_or w i 0)) e ∙ alg s (gf_pow x i) (value_of (take i w) x) x (get_or w i 0)
    ∙ ap₂ (λ (y z : ℕ). gf_add (gf_mul s y) z) (sym (pow_suc x i) ∙ ap (gf_pow x) (sym (add-one i)))
    (sym (value_of-push (take i w) (get_or w i 0) x b bx) ∙ ap (λ (u : List ℕ). value_of u x) (sym (take_more w i 0 l)))

pub values_done : (s x i v : ℕ) (w : List ℕ) → i ≡ length w
    → v ≡ gf_add (gf_mul s (gf_pow x i)) (value_of (take i w) x)
    → v ≡ gf_add (gf_mul s (gf_pow x (length w))) (value_of w x)
values_done s x i v w e h =
    h ∙ ap₂ (λ (j : ℕ) (u : List ℕ). gf_add (gf_mul s (gf_pow x j)) (value_of u x)) e (take_all i w (omega arith))

-- with nothing before it
pub values_alone : (s x v : ℕ) (w : List ℕ) → s ≡ 0 → v ≡ gf_add (gf_mul s (gf_pow x (length w))) (value_of w x)
    → v ≡ value_of w x
values_alone s x v w z h =
    h ∙ ap (λ (y : ℕ). gf_add y (value_of w x)) (ap (λ (y : ℕ). gf_mul y (gf_pow x (length w))) z
    ∙ zero_mul (gf_pow x (length w))) ∙ zero_add (value_of w x)

-- two words end to end
pub values_joined : (x v r : ℕ) (m p : List ℕ) → v ≡ value_of m x
    → r ≡ gf_add (gf_mul v (gf_pow x (length p))) (value_of p x) → r ≡ value_of (m ++ p) x
values_joined x v r m p ev er =
    er ∙ ap (λ (y : ℕ). gf_add (gf_mul y (gf_pow x (length p))) (value_of p x)) ev ∙ sym (value_of-append m p x)
