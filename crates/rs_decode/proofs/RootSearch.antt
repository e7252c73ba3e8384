-- The roots as they are found, place by place and sixteen at once. For `take_roots` and `few_roots`.
use Rattle.std.proofs.Common.{◌≡◌, ◌≢◌, ℕ, suc, ◌+◌, ◌-◌, ◌*◌, ◌≤◌, ◌<◌, min, eqb, sym, ap, ap₂, ◌∙◌, arith, List, []}
use Rattle.std.proofs.Common.{◌∷◌, ◌++◌, length, get_or, take, take-take, ◌⊎◌, inl, inr, append_assoc, append-nil}
use Rattle.std.proofs.lemmas.Bool.{cond-true, cond-false, eq-eqb, ne_eqb, cases_lt}
use Rattle.std.proofs.lemmas.List.{take-append-le, length-take-le, take_all}
use Rattle.code_spec.specs.Field.{gf_add, gf_mul, gf_pow}
use Rattle.code_spec.specs.Code.{value_of}
use Rattle.code_laws.proofs.Ring.{mul_assoc, pow_add}
use Rattle.code_laws.proofs.Words.{value_of-nil, value_of-cons, pow_pow}
use Rattle.decoder_laws.specs.Chien.{roots_of}
use Rattle.rs_decode.specs.Fixes.{AreValues}

-- a root is one more
pub root_found : (v q q' R : List ℕ) (m s s' : ℕ) → s ≡ suc m → s' ≡ m → q' ≡ q ++ m ∷ []
    → value_of v (gf_pow 2 (255 - m)) ≡ 0 → q ++ roots_of v s ≡ R → q' ++ roots_of v s' ≡ R
root_found v q q' R m s s' es es' eq e h =
    ap₂ (λ (u : List ℕ) (t : ℕ). u ++ roots_of v t) eq es' ∙ append_assoc q (m ∷ []) (roots_of v m)
    ∙ ap (λ (u : List ℕ). q ++ u) (sym (cond-true (eqb (value_of v (gf_pow 2 (255 - m))) 0) (m ∷ roots_of v m)
    (roots_of v m) (eq-eqb (value_of v (gf_pow 2 (255 - m))) 0 e)) ∙ ap (roots_of v) (sym es)) ∙ h

-- any other place is none
pub root_passed : (v q q' R : List ℕ) (m s s' : ℕ) → s ≡ suc m → s' ≡ m → q' ≡ q
    → value_of v (gf_pow 2 (255 - m)) ≢ 0 → q ++ roots_of v s ≡ R → q' ++ roots_of v s' ≡ R
root_passed v q q' R m s s' es es' eq ne h =
    ap₂ (λ (u : List ℕ) (t : ℕ). u ++ roots_of v t) eq es'
    ∙ ap (λ (u : List ℕ). q ++ u) (sym (cond-false (eqb (value_of v (gf_pow 2 (255 - m))) 0) (m ∷ roots_of v m)
    (roots_of v m) (ne_eqb (value_of v (gf_pow 2 (255 - m))) 0 ne)) ∙ ap (roots_of v) (sym es)) ∙ h

-- a word whose symbols are scaled by powers has its values further on
pub scaled_value : (v w : List ℕ) (a k : ℕ) → length w ≡ length v
    → ((i : ℕ) → i < length v → get_or w i 0 ≡ gf_mul (get_or v i 0) (gf_pow 2 (a * (length v - 1 - i))))
    → value_of w (gf_pow 2 k) ≡ value_of v (gf_pow 2 (a + k))
scaled_value [] [] a k l h = value_of-nil (gf_pow 2 k) ∙ sym (value_of-nil (gf_pow 2 (a + k)))
scaled_value [] (d ∷ w) a k l h = absurd (omega arith)
scaled_value (c ∷ v) [] a k l h = absurd (omega arith)
scaled_value (c ∷ v) (d ∷ w) a k l h =
    let n : ℕ = length v in
    let len : length w ≡ n = omega arith in
    let first : d ≡ gf_mul c (gf_pow 2 (a * n)) =
    h 0 (omega arith) ∙ ap (λ (i : ℕ). gf_mul c (gf_pow 2 (a * i))) (let e : suc n - 1 - 0 ≡ n = omega arith in e) in
    value_of-cons d w (gf_pow 2 k)
    ∙ ap₂ gf_add (ap₂ gf_mul first (ap (gf_pow (gf_pow 2 k)) len ∙ pow_pow 2 k n)
    ∙ mul_assoc c (gf_pow 2 (a * n)) (gf_pow 2 (k * n))
    ∙ ap (gf_mul c) (sym (pow_add 2 (a * n) (k * n))
    ∙ ap (gf_pow 2) (let e : a * n + k * n ≡ (a + k) * n = omega arith in e) ∙ sym (pow_pow 2 (a + k) n)))
    (scaled_value v w a k len (λ i li. h (suc i) (omega arith)
    ∙ ap (λ (j : ℕ). gf_mul (get_or v i 0) (gf_pow 2 (a * j))) (let e : suc n - 1 - suc i ≡ n - 1 - i = omega arith in e)))
    ∙ sym (value_of-cons c v (gf_pow 2 (a + k)))

-- sixteen places further
pub moved_term : (n o c b i d : ℕ) → n ≡ gf_mul o (gf_pow 2 (16 * d)) → o ≡ gf_mul c (gf_pow 2 ((b + 16 * i) * d))
    → n ≡ gf_mul c (gf_pow 2 ((b + 16 * (i + 1)) * d))
moved_term n o c b i d en eo =
    en ∙ ap (λ (y : ℕ). gf_mul y (gf_pow 2 (16 * d))) eo
    ∙ mul_assoc c (gf_pow 2 ((b + 16 * i) * d)) (gf_pow 2 (16 * d))
    ∙ ap (gf_mul c) (sym (pow_add 2 ((b + 16 * i) * d) (16 * d))
    ∙ ap (gf_pow 2) (let e : (b + 16 * i) * d + 16 * d ≡ (b + 16 * (i + 1)) * d = omega arith in e))

-- the values of the scaled locator are those at the places left
pub values_left : (v w values : List ℕ) (n i left : ℕ) → n ≤ 255 → 16 * i ≤ n → left ≡ n - 16 * i
    → length values ≤ 16 → length w ≡ length v
    → ((j : ℕ) → j < length v → get_or w j 0
    ≡ gf_mul (get_or v j 0) (gf_pow 2 ((256 - n + 16 * i) * (length v - 1 - j))))
    → ((k : ℕ) → k < length values → get_or values k 0 ≡ value_of w (gf_pow 2 k)) → AreValues v left values
values_left v w values n i left ln li el lv lw terms at = record {
  at = λ k m l e. at k l ∙ scaled_value v w (256 - n + 16 * i) k lw terms
      ∙ ap (λ (x : ℕ). value_of v (gf_pow 2 x)) (let h : 256 - n + 16 * i + k ≡ 255 - m = omega arith in h);
}

-- enough are found, or none are left
pub enough : (d n : ℕ) (f rest R : List ℕ) → n ≤ length f → take n f ++ rest ≡ R → (d ≤ n) ⊎ (rest ≡ [])
    → take (min n d) f ≡ take d R
enough d n f rest R l h (inl e) =
    ap (λ (i : ℕ). take i f) (let i : min n d ≡ d = omega arith in i) ∙ sym (take-take d n f e)
    ∙ sym (take-append-le d (take n f) rest (omega (arith, length-take-le n f l))) ∙ ap (take d) h
enough d n f rest R l h (inr e) = go (cases_lt n d)
  where
    whole : take n f ≡ R
    whole = sym (append-nil (take n f)) ∙ ap (λ (u : List ℕ). take n f ++ u) (sym e) ∙ h

    go : (n < d) ⊎ (d ≤ n) → take (min n d) f ≡ take d R
    go (inl k) = ap (λ (i : ℕ). take i f) (let i : min n d ≡ n = omega arith in i)
        ∙ sym (take_all d (take n f) (omega (arith, length-take-le n f l))) ∙ ap (take d) whole
    go (inr k) = ap (λ (i : ℕ). take i f) (let i : min n d ≡ d = omega arith in i) ∙ sym (take-take d n f k)
        ∙ ap (take d) whole
