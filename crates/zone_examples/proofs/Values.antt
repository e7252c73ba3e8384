-- The value of a word computed from its first symbol on, with one product a symbol
use Rattle.std.proofs.Common.{◌≡◌, ◌<◌, ℕ, zero, suc, List, [], ◌∷◌, length, ◌&&◌, ◌==◌, Bool, true, refl, sym, ap, ap₂}
use Rattle.std.proofs.Common.{◌∙◌, arith}
use Rattle.std.specs.List.{AllByRecursion}
use Rattle.code_spec.specs.Field.{gf_add, gf_mul, gf_pow}
use Rattle.code_spec.specs.Code.{value_of, is_codeword}
use Rattle.code_laws.proofs.Ring.{ring, zero_add, add_zero, zero_mul, mul_one, mul_below, add_below, pow_suc, pow_zero}

abbrev pub value_from : ℕ → List ℕ → ℕ → ℕ
value_from acc [] x = acc
value_from acc (c ∷ cs) x = value_from (gf_add (gf_mul acc x) c) cs x

value_from-is : (acc : ℕ) (w : List ℕ) (x : ℕ) → acc < 256 → AllByRecursion (λ b. b < 256) w
    → value_from acc w x ≡ gf_add (gf_mul acc (gf_pow x (length w))) (value_of w x)
unfolding value_of
value_from-is acc [] x l h = sym (add_zero (gf_mul acc (gf_pow x 0)) ∙ ap (gf_mul acc) (pow_zero x) ∙ mul_one acc l)
value_from-is acc (c ∷ cs) x l h =
    value_from-is (gf_add (gf_mul acc x) c) cs x (add_below (gf_mul acc x) c (mul_below acc x) h.0) h.1
    ∙ step acc c x (gf_pow x (length cs)) (value_of cs x)
    ∙ ap (λ (p : ℕ). gf_add (gf_mul acc p) (gf_add (gf_mul c (gf_pow x (length cs))) (value_of cs x)))
    (sym (pow_suc x (length cs)))
  where
    step : (acc c x p v : ℕ) → gf_add (gf_mul (gf_add (gf_mul acc x) c) p) v
        ≡ gf_add (gf_mul acc (gf_mul x p)) (gf_add (gf_mul c p) v)
    step acc c x p v = simp ring

abbrev pub vanishes : ℕ → List ℕ → Bool
vanishes zero w = true
vanishes (suc j) w = (value_from 0 w (gf_pow 2 j) == 0) && vanishes j w

pub vanishes-is : (r : ℕ) (w : List ℕ) → AllByRecursion (λ b. b < 256) w → is_codeword r w ≡ vanishes r w
unfolding is_codeword
vanishes-is zero w h = refl
vanishes-is (suc j) w h =
    ap₂ (λ (v : ℕ) b. (v == 0) && b)
    (sym (value_from-is 0 w (gf_pow 2 j) (omega arith) h
    ∙ ap (λ (y : ℕ). gf_add y (value_of w (gf_pow 2 j))) (zero_mul (gf_pow (gf_pow 2 j) (length w)))
    ∙ zero_add (value_of w (gf_pow 2 j))))
    (vanishes-is j w h)
