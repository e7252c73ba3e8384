-- Forney's formula: the symbol of a place is the evaluator's value there over that of the locator's derivative. For
-- `ratio`, `fix_of` and `candidate` in rs_decode.
use Rattle.std.proofs.Common.{◌≡◌, ◌≢◌, ℕ, zero, suc, ◌-◌, ◌≤◌, ◌<◌, ◌==◌, if◌then◌else◌, eqb, refl, sym, ap, ap₂, ◌∙◌}
use Rattle.std.proofs.Common.{subst, arith, List, [], ◌∷◌, length, ◌⊎◌, inl, inr, get_or}
use Rattle.code_spec.specs.Field.{gf_add, gf_mul, gf_pow}
use Rattle.code_laws.proofs.Ring.{ring, add_self, zero_add, add_zero, mul_left_comm, mul_zero, mul_one, one_mul}
use Rattle.code_laws.proofs.Ring.{mul_below, add_below, mul_cancel_zero, pow_suc, pow_zero, pow_below}
use Rattle.decoder_laws.specs.Series.{Below, linear, horner}
use Rattle.decoder_laws.proofs.Horner.{horner-linear, horner-scale, horner-factor}
use Rattle.decoder_laws.specs.Locators.{locator, evaluator}
use Rattle.code_laws.specs.Locators.{Spot, NotAmong}
use Rattle.code_spec.specs.Code.{value_of}
use Rattle.decoder_laws.specs.Polynomials.{poly}
use Rattle.code_laws.proofs.Symbols.{Symbols}
use Rattle.decoder_laws.proofs.Polynomials.{value_of-reciprocal}
use Rattle.code_laws.proofs.Words.{spots_of, not_among_spots}
use Rattle.decoder_laws.proofs.KeyEquation.{evaluator-below}
use Rattle.decoder_laws.proofs.Locators.{locator_at, horner-locator, horner-evaluator_cons}
use Rattle.decoder_laws.proofs.Powers.{add_some, power_some, cancel_equal}
use Rattle.decoder_laws.specs.Chien.{at_power, powers_of}
use Rattle.decoder_laws.specs.Forney.{gap_ratio, Below255}
use Rattle.std.proofs.lemmas.Bool.{cases_lt, cases_eq, ne_eqb, eq-eqb, cond-true, cond-false}
use Rattle.code_laws.proofs.Powers.{pow_inverse}
use Rattle.decoder_laws.proofs.Chien.{spots_skip, spots_keep, at_here, at_below, locator_at_place, powers_skip}
use Rattle.decoder_laws.proofs.Chien.{powers_keep}
use Rattle.decoder_laws.specs.Damage.{IsFound}

-- the product of X + Y over the other locators Y: the value of the locator's derivative
derivative_at : ℕ → List Spot → ℕ
derivative_at X [] = 1
derivative_at X (s ∷ ss) = if X == s.X then derivative_at X ss else gf_mul (gf_add X s.X) (derivative_at X ss)

derivative_at_absent : (X : ℕ) (ss : List Spot) → NotAmong X ss → derivative_at X ss ≡ locator_at X ss
unfolding derivative_at locator_at
derivative_at_absent X [] n = refl
derivative_at_absent X (s ∷ ss) n = cond-false (eqb X s.X) (derivative_at X ss)
    (gf_mul (gf_add X s.X) (derivative_at X ss))
    (ne_eqb X s.X n.0) ∙ ap (gf_mul (gf_add X s.X)) (derivative_at_absent X ss n.1)

derivative_at_own : (X : ℕ) (s : Spot) (ss : List Spot) → X ≡ s.X → derivative_at X (s ∷ ss) ≡ derivative_at X ss
unfolding derivative_at
derivative_at_own X s ss e = cond-true (eqb X s.X) (derivative_at X ss) (gf_mul (gf_add X s.X) (derivative_at X ss))
    (eq-eqb X s.X e)

derivative_at_other : (X : ℕ) (s : Spot) (ss : List Spot) → X ≢ s.X
    → derivative_at X (s ∷ ss) ≡ gf_mul (gf_add X s.X) (derivative_at X ss)
unfolding derivative_at
derivative_at_other X s ss n = cond-false (eqb X s.X) (derivative_at X ss) (gf_mul (gf_add X s.X) (derivative_at X ss))
    (ne_eqb X s.X n)

locator_at-nil : (X : ℕ) (ss : List Spot) → length ss ≡ 0 → locator_at X ss ≡ 1
unfolding locator_at
locator_at-nil X [] e = refl
locator_at-nil X (s ∷ ss) e = absurd (omega arith)

-- the evaluator's value at a place is its symbol times the value of the derivative
horner-evaluator_place : (D : List ℕ) (j n : ℕ) → j < length D → length D ≤ 255 → Symbols D → at_power D j ≢ 0
    → length (spots_of D) ≡ suc n
    → horner (gf_pow 2 j) (evaluator (spots_of D)) n ≡ gf_mul (at_power D j) (derivative_at (gf_pow 2 j) (spots_of D))
horner-evaluator_place [] j n l b s nz e = absurd (omega arith)
horner-evaluator_place (c ∷ d) j n l b s nz e = go (cases_lt j (length d)) (cases_eq c 0) n e
    (λ l' n' e'. horner-evaluator_place d j n' l' (omega arith) s.1 (λ z. nz (at_below c j d l' ∙ z)) e')
  where
    X : ℕ
    X = gf_pow 2 j

    spot : Spot
    spot = record { X = gf_pow 2 (length d); mask = c }

    ss : List Spot
    ss = spots_of d

    go : (j < length d) ⊎ (length d ≤ j) → (c ≡ 0) ⊎ (c ≢ 0) → (n : ℕ) → length (spots_of (c ∷ d)) ≡ suc n
        → (j < length d → (n' : ℕ) → length ss ≡ suc n' → horner X (evaluator ss) n'
        ≡ gf_mul (at_power d j) (derivative_at X ss))
        → horner X (evaluator (spots_of (c ∷ d))) n ≡ gf_mul (at_power (c ∷ d) j) (derivative_at X (spots_of (c ∷ d)))
    go (inr l') (inl z) n e ih = absurd (nz (at_here c j d (omega arith) ∙ z))
    go (inl l') (inl z) n e ih =
        ap (λ (t : List Spot). horner X (evaluator t) n) (spots_skip c d z)
        ∙ ih l' n (ap length (sym (spots_skip c d z)) ∙ e)
        ∙ ap₂ (λ (x : ℕ) (t : List Spot). gf_mul x (derivative_at X t)) (sym (at_below c j d l'))
        (sym (spots_skip c d z))
    go (inr l') (inr nc) n e ih =
        let ej : j ≡ length d = omega arith in
        let en : length ss ≡ n = omega (arith, ap length (spots_keep c d nc), e) in
        ap (λ (t : List Spot). horner X (evaluator t) n) (spots_keep c d nc) ∙ horner-evaluator_cons spot ss X n
        ∙ ap₂ gf_add
        (ap (gf_mul c) (ap (horner X (locator ss)) (sym en) ∙ horner-locator X ss
        ∙ sym (derivative_at_absent X ss (not_among_spots j d (omega arith) (omega arith)))))
        (ap (λ (i : ℕ). horner (gf_pow 2 i) (linear (gf_pow 2 (length d)) (evaluator ss)) n) ej
        ∙ ap (λ (f : ℕ → ℕ). f n) (horner-linear (gf_pow 2 (length d)) (evaluator ss))
        ∙ (evaluator-below ss).at n (omega (arith, en)))
        ∙ add_zero (gf_mul c (derivative_at X ss))
        ∙ ap₂ gf_mul (sym (at_here c j d ej)) (sym (derivative_at_own X spot ss (ap (gf_pow 2) ej))
        ∙ ap (derivative_at X) (sym (spots_keep c d nc)))
    go (inl l') (inr nc) zero e ih =
        absurd (let f : 1 ≡ 0 = sym (locator_at-nil X ss (omega (arith, ap length (spots_keep c d nc), e)))
        ∙ (locator_at_place d j l' (omega arith) s.1).some_there (λ z. nz (at_below c j d l' ∙ z)) in cc)
    go (inl l') (inr nc) (suc n) e ih =
        let en : length ss ≡ suc n = omega (arith, ap length (spots_keep c d nc), e) in
        let root : horner X (locator ss) (suc n) ≡ 0 = ap (horner X (locator ss)) (sym en) ∙ horner-locator X ss
        ∙ (locator_at_place d j l' (omega arith) s.1).some_there (λ z. nz (at_below c j d l' ∙ z)) in
        ap (λ (t : List Spot). horner X (evaluator t) (suc n)) (spots_keep c d nc)
        ∙ horner-evaluator_cons spot ss X (suc n)
        ∙ ap₂ gf_add (ap (gf_mul c) root ∙ mul_zero c)
        (horner-factor X spot.X n (evaluator ss) (subst (λ (i : ℕ). Below i (evaluator ss)) en (evaluator-below ss))
        ∙ ap (gf_mul (gf_add X spot.X)) (ih l' n en))
        ∙ zero_add (gf_mul (gf_add X spot.X) (gf_mul (at_power d j) (derivative_at X ss)))
        ∙ mul_left_comm (gf_add X spot.X) (at_power d j) (derivative_at X ss)
        ∙ ap₂ gf_mul (sym (at_below c j d l')) (sym (derivative_at_other X spot ss
        (λ e'. add_some j (length d) (omega arith) (omega arith) (λ e''. absurd (omega arith))
        (ap (λ (x : ℕ). gf_add x (gf_pow 2 (length d))) e' ∙ add_self (gf_pow 2 (length d)))))
        ∙ ap (derivative_at X) (sym (spots_keep c d nc)))

-- ---- the denominator of Forney's formula
others_count : List ℕ → ℕ → ℕ
others_count [] j = 0
others_count (i ∷ js) j = if i == j then others_count js j else suc (others_count js j)

pub gap_ratio_own : (i j : ℕ) (js : List ℕ) → i ≡ j → gap_ratio (i ∷ js) j ≡ gap_ratio js j
gap_ratio_own i j js e = cond-true (eqb i j) (gap_ratio js j)
    (gf_mul (gf_add 1 (gf_mul (gf_pow 2 i) (gf_pow 2 (255 - j)))) (gap_ratio js j)) (eq-eqb i j e)

pub gap_ratio_other : (i j : ℕ) (js : List ℕ) → i ≢ j → gap_ratio (i ∷ js) j
    ≡ gf_mul (gf_add 1 (gf_mul (gf_pow 2 i) (gf_pow 2 (255 - j)))) (gap_ratio js j)
gap_ratio_other i j js n = cond-false (eqb i j) (gap_ratio js j)
    (gf_mul (gf_add 1 (gf_mul (gf_pow 2 i) (gf_pow 2 (255 - j)))) (gap_ratio js j)) (ne_eqb i j n)

others_count_own : (i j : ℕ) (js : List ℕ) → i ≡ j → others_count (i ∷ js) j ≡ others_count js j
unfolding others_count
others_count_own i j js e = cond-true (eqb i j) (others_count js j) (suc (others_count js j)) (eq-eqb i j e)

others_count_other : (i j : ℕ) (js : List ℕ) → i ≢ j → others_count (i ∷ js) j ≡ suc (others_count js j)
unfolding others_count
others_count_other i j js n = cond-false (eqb i j) (others_count js j) (suc (others_count js j)) (ne_eqb i j n)

gap_ratio-derivative : (D : List ℕ) (j : ℕ) → j < 255 → length D ≤ 255
    → gf_mul (gap_ratio (powers_of D) j) (gf_pow (gf_pow 2 j) (others_count (powers_of D) j))
    ≡ derivative_at (gf_pow 2 j) (spots_of D)
unfolding derivative_at others_count spots_of
gap_ratio-derivative [] j bj b = ap (gf_mul 1) (pow_zero (gf_pow 2 j)) ∙ mul_one 1 (omega arith)
gap_ratio-derivative (c ∷ d) j bj b = go (cases_eq c 0) (cases_eq (length d) j)
    (gap_ratio-derivative d j bj (omega arith))
  where
    X : ℕ
    X = gf_pow 2 j

    spot : Spot
    spot = record { X = gf_pow 2 (length d); mask = c }

    F : List ℕ → ℕ
    F js = gf_mul (gap_ratio js j) (gf_pow X (others_count js j))

    alg : (a y R x P : ℕ) → gf_mul (gf_mul (gf_add 1 (gf_mul a y)) R) (gf_mul x P)
        ≡ gf_mul (gf_add (gf_mul 1 x) (gf_mul a (gf_mul x y))) (gf_mul R P)
    alg a y R x P = simp ring

    go : (c ≡ 0) ⊎ (c ≢ 0) → (length d ≡ j) ⊎ (length d ≢ j) → F (powers_of d) ≡ derivative_at X (spots_of d)
        → F (powers_of (c ∷ d)) ≡ derivative_at X (spots_of (c ∷ d))
    go (inl z) k ih = ap F (powers_skip c d z) ∙ ih ∙ ap (derivative_at X) (sym (spots_skip c d z))
    go (inr nc) (inl e) ih =
        ap F (powers_keep c d nc)
        ∙ ap₂ (λ (x n : ℕ). gf_mul x (gf_pow X n)) (gap_ratio_own (length d) j (powers_of d) e)
        (others_count_own (length d) j (powers_of d) e) ∙ ih
        ∙ sym (ap (derivative_at X) (spots_keep c d nc) ∙ derivative_at_own X spot (spots_of d) (ap (gf_pow 2) (sym e)))
    go (inr nc) (inr n) ih =
        ap F (powers_keep c d nc) ∙ ap₂ (λ (x m : ℕ). gf_mul x (gf_pow X m))
        (gap_ratio_other (length d) j (powers_of d) n) (others_count_other (length d) j (powers_of d) n)
        ∙ ap (gf_mul (gf_mul (gf_add 1 (gf_mul spot.X (gf_pow 2 (255 - j)))) (gap_ratio (powers_of d) j)))
        (pow_suc X (others_count (powers_of d) j))
        ∙ alg spot.X (gf_pow 2 (255 - j)) (gap_ratio (powers_of d) j) X (gf_pow X (others_count (powers_of d) j))
        ∙ ap₂ gf_mul (ap₂ gf_add (one_mul X (pow_below 2 j))
        (ap (gf_mul spot.X) (pow_inverse j (omega arith)) ∙ mul_one spot.X (pow_below 2 (length d)))) ih
        ∙ sym (ap (derivative_at X) (spots_keep c d nc) ∙ derivative_at_other X spot (spots_of d)
        (λ e. add_some (length d) j (omega arith) bj n (ap (λ (x : ℕ). gf_add (gf_pow 2 (length d)) x) e
        ∙ add_self (gf_pow 2 (length d)))))

others_count_absent : (D : List ℕ) (j : ℕ) → (length D ≤ j) ⊎ (at_power D j ≡ 0)
    → others_count (powers_of D) j ≡ length (spots_of D)
unfolding others_count spots_of
others_count_absent [] j h = refl
others_count_absent (c ∷ d) j h = go (cases_eq c 0) h (cases_lt j (length d)) (others_count_absent d j)
  where
    skip : c ≡ 0 → others_count (powers_of d) j ≡ length (spots_of d)
        → others_count (powers_of (c ∷ d)) j ≡ length (spots_of (c ∷ d))
    skip z r = ap (λ (js : List ℕ). others_count js j) (powers_skip c d z) ∙ r ∙ ap length (sym (spots_skip c d z))

    keep : c ≢ 0 → length d ≢ j → others_count (powers_of d) j ≡ length (spots_of d)
        → others_count (powers_of (c ∷ d)) j ≡ length (spots_of (c ∷ d))
    keep n ne r = ap (λ (js : List ℕ). others_count js j) (powers_keep c d n)
        ∙ others_count_other (length d) j (powers_of d) ne
        ∙ ap suc r ∙ ap length (sym (spots_keep c d n))

    go : (c ≡ 0) ⊎ (c ≢ 0) → (suc (length d) ≤ j) ⊎ (at_power (c ∷ d) j ≡ 0) → (j < length d) ⊎ (length d ≤ j)
        → ((length d ≤ j) ⊎ (at_power d j ≡ 0) → others_count (powers_of d) j ≡ length (spots_of d))
        → others_count (powers_of (c ∷ d)) j ≡ length (spots_of (c ∷ d))
    go (inl z) h (inr l) ih = skip z (ih (inl l))
    go (inl z) (inl h) (inl l) ih = skip z (ih (inl (omega arith)))
    go (inl z) (inr h) (inl l) ih = skip z (ih (inr (sym (at_below c j d l) ∙ h)))
    go (inr n) (inl h) k ih = keep n (λ e. absurd (omega arith)) (ih (inl (omega arith)))
    go (inr n) (inr h) (inl l) ih = keep n (λ e. absurd (omega arith)) (ih (inr (sym (at_below c j d l) ∙ h)))
    go (inr n) (inr h) (inr l) ih = keep n (λ e. n (sym (at_here c j d (sym e)) ∙ h)) (ih (inl l))

others_count_place : (D : List ℕ) (j : ℕ) → j < length D → at_power D j ≢ 0
    → suc (others_count (powers_of D) j) ≡ length (spots_of D)
unfolding others_count spots_of
others_count_place [] j l nz = absurd (omega arith)
others_count_place (c ∷ d) j l nz = go (cases_eq c 0) (cases_lt j (length d))
    (λ l'. others_count_place d j l' (λ z. nz (at_below c j d l' ∙ z)))
  where
    go : (c ≡ 0) ⊎ (c ≢ 0) → (j < length d) ⊎ (length d ≤ j)
        → (j < length d → suc (others_count (powers_of d) j) ≡ length (spots_of d))
        → suc (others_count (powers_of (c ∷ d)) j) ≡ length (spots_of (c ∷ d))
    go (inl z) (inr l') ih = absurd (nz (at_here c j d (omega arith) ∙ z))
    go (inl z) (inl l') ih = ap (λ (js : List ℕ). suc (others_count js j)) (powers_skip c d z) ∙ ih l'
        ∙ ap length (sym (spots_skip c d z))
    go (inr n) (inl l') ih = ap (λ (js : List ℕ). suc (others_count js j)) (powers_keep c d n)
        ∙ ap suc (others_count_other (length d) j (powers_of d) (λ e. absurd (omega arith))) ∙ ap suc (ih l')
        ∙ ap length (sym (spots_keep c d n))
    go (inr n) (inr l') ih = ap (λ (js : List ℕ). suc (others_count js j)) (powers_keep c d n)
        ∙ ap suc (others_count_own (length d) j (powers_of d) (omega arith)) ∙ ap suc (others_count_absent d j (inl l'))
        ∙ ap length (sym (spots_keep c d n))

-- the symbol of D times its denominator is c times the value of r at 1 / X
pub found_mask : (D v r : List ℕ) (c j : ℕ) → IsFound D v r c → j < length D → at_power D j ≢ 0 → at_power D j < 256
    → gf_mul (at_power D j) (gap_ratio (powers_of D) j) ≡ gf_mul c (value_of r (gf_pow 2 (255 - j)))
found_mask D v r c j h l n b =
    cancel_equal (gf_mul (at_power D j) (gap_ratio (powers_of D) j)) (gf_mul c (value_of r y)) P
    (mul_below (at_power D j) (gap_ratio (powers_of D) j)) (mul_below c (value_of r y)) (pow_below X k) (power_some j k)
    (alg P (at_power D j) (gap_ratio (powers_of D) j) ∙ ap (gf_mul (at_power D j))
    (gap_ratio-derivative D j (omega (arith, h.len)) h.len)
    ∙ sym (horner-evaluator_place D j k l h.len h.symbols n (sym (others_count_place D j l n)))
    ∙ ap (λ (p : ℕ → ℕ). horner X p k) h.evaluator_is ∙ horner-scale X c k (poly r)
    ∙ ap (gf_mul c) (sym (value_of-reciprocal X y (pow_below 2 j) (pow_below 2 (255 - j))
    (pow_inverse j (omega (arith, h.len))) r h.r_bytes k (omega (arith, h.r_low, others_count_place D j l n))))
    ∙ alg' c (value_of r y) P)
  where
    X : ℕ
    X = gf_pow 2 j

    y : ℕ
    y = gf_pow 2 (255 - j)

    k : ℕ
    k = others_count (powers_of D) j

    P : ℕ
    P = gf_pow X k

    alg : (p a q : ℕ) → gf_mul p (gf_mul a q) ≡ gf_mul a (gf_mul q p)
    alg p a q = simp ring

    alg' : (c v p : ℕ) → gf_mul c (gf_mul v p) ≡ gf_mul p (gf_mul c v)
    alg' c v p = simp ring

pub gap_ratio_below : (js : List ℕ) (j : ℕ) → gap_ratio js j < 256
gap_ratio_below [] j = omega arith
gap_ratio_below (i ∷ js) j = go (cases_eq i j) (gap_ratio_below js j)
  where
    go : (i ≡ j) ⊎ (i ≢ j) → gap_ratio js j < 256 → gap_ratio (i ∷ js) j < 256
    go (inl e) h = subst (λ (x : ℕ). x < 256) (sym (gap_ratio_own i j js e)) h
    go (inr n) h = subst (λ (x : ℕ). x < 256) (sym (gap_ratio_other i j js n))
        (mul_below (gf_add 1 (gf_mul (gf_pow 2 i) (gf_pow 2 (255 - j)))) (gap_ratio js j))

-- two locators differ
pub gap_some : (i j : ℕ) → i < 255 → j < 255 → i ≢ j
    → gf_add 1 (gf_mul (gf_pow 2 i) (gf_pow 2 (255 - j))) ≢ 0
gap_some i j bi bj n e =
    add_some i j bi bj n
    (ap₂ gf_add (sym (ap (gf_mul (gf_pow 2 i)) (pow_inverse j (omega arith))
    ∙ mul_one (gf_pow 2 i) (pow_below 2 i))) (sym (mul_one (gf_pow 2 j) (pow_below 2 j)))
    ∙ sym (alg (gf_pow 2 j) (gf_pow 2 (255 - j)) (gf_pow 2 i)) ∙ ap (gf_mul (gf_pow 2 j)) e ∙ mul_zero (gf_pow 2 j))
  where
    alg : (x z a : ℕ) → gf_mul x (gf_add 1 (gf_mul a z)) ≡ gf_add (gf_mul a (gf_mul x z)) (gf_mul x 1)
    alg x z a = simp ring

pub gap_ratio_some : (js : List ℕ) (j : ℕ) → j < 255 → Below255 js → gap_ratio js j ≢ 0
gap_ratio_some [] j bj b = λ e. absurd (cc)
gap_ratio_some (i ∷ js) j bj b = go (cases_eq i j) (gap_ratio_some js j bj b.1)
  where
    y : ℕ
    y = gf_pow 2 (255 - j)

    f : ℕ
    f = gf_add 1 (gf_mul (gf_pow 2 i) y)

    go : (i ≡ j) ⊎ (i ≢ j) → gap_ratio js j ≢ 0 → gap_ratio (i ∷ js) j ≢ 0
    go (inl e) h z = h (sym (gap_ratio_own i j js e) ∙ z)
    go (inr n) h z = h (mul_cancel_zero f (gap_ratio js j)
        (add_below 1 (gf_mul (gf_pow 2 i) y) (omega arith) (mul_below (gf_pow 2 i) y)) (gap_some i j b.0 bj n)
        (gap_ratio_below js j) (sym (gap_ratio_other i j js n) ∙ z))

pub below_255-at : (js : List ℕ) (i : ℕ) → i < length js → Below255 js → get_or js i 0 < 255
below_255-at [] i l h = absurd (omega arith)
below_255-at (j ∷ js) zero l h = h.0
below_255-at (j ∷ js) (suc i) l h = below_255-at js i (omega arith) h.1
