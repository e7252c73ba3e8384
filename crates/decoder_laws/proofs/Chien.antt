-- Chien's search: the powers at whose reciprocals the locator is zero are those of the places that differ. For
-- `own_roots` and `candidate` in rs_decode.
use Rattle.std.proofs.lemmas.Bool.{cases_eq}
use Rattle.std.proofs.Common.{◌≡◌, ◌≢◌, ℕ, zero, suc, ◌-◌, ◌≤◌, ◌<◌, eqb, true, false, cond, refl, sym, ap, ap₂, ◌∙◌}
use Rattle.std.proofs.Common.{subst, arith, List, [], ◌∷◌, ◌++◌, length, ◌⊎◌, inl, inr, append_assoc, ◌+◌, get_or, take}
use Rattle.std.proofs.Common.{take_all}
use Rattle.code_spec.specs.Field.{gf_add, gf_mul, gf_pow}
use Rattle.code_laws.proofs.Ring.{add_self, mul_comm, zero_mul, mul_zero, mul_below, add_below, mul_cancel_zero}
use Rattle.code_laws.proofs.Ring.{pow_below}
use Rattle.decoder_laws.specs.Series.{horner}
use Rattle.decoder_laws.proofs.Horner.{horner-scale}
use Rattle.code_laws.specs.Locators.{Spot}
use Rattle.code_spec.specs.Code.{value_of}
use Rattle.decoder_laws.specs.Polynomials.{poly}
use Rattle.code_laws.proofs.Symbols.{Symbols}
use Rattle.decoder_laws.proofs.Polynomials.{value_of-reciprocal}
use Rattle.code_laws.proofs.Words.{spots_of, not_among_spots, spots_of-are}
use Rattle.decoder_laws.proofs.Locators.{locator_at, locator_at-below, locator_at_some, horner-locator}
use Rattle.decoder_laws.proofs.Powers.{add_some, value_below, power_some}
use Rattle.decoder_laws.specs.Chien.{at_power, powers_of, roots_of, PowersBelow}
use Rattle.decoder_laws.specs.Forney.{Below255}
use Rattle.std.proofs.lemmas.Bool.{cases_lt, ne_eqb, eq-eqb, cond-true, cond-false}
use Rattle.code_laws.proofs.Powers.{pow_inverse}
use Rattle.decoder_laws.specs.Damage.{IsFound}

pub spots_of-nil : spots_of [] ≡ []
unfolding spots_of
spots_of-nil = refl

pub spots_skip : (c : ℕ) (d : List ℕ) → c ≡ 0 → spots_of (c ∷ d) ≡ spots_of d
unfolding spots_of
spots_skip c d e = cond-true (eqb c 0) (spots_of d) (record { X = gf_pow 2 (length d); mask = c } ∷ spots_of d)
    (eq-eqb c 0 e)

pub spots_keep : (c : ℕ) (d : List ℕ) → c ≢ 0 → spots_of (c ∷ d) ≡ record { X = gf_pow 2 (length d); mask = c }
    ∷ spots_of d
unfolding spots_of
spots_keep c d n = cond-false (eqb c 0) (spots_of d) (record { X = gf_pow 2 (length d); mask = c } ∷ spots_of d)
    (ne_eqb c 0 n)

pub at_here : (c j : ℕ) (d : List ℕ) → j ≡ length d → at_power (c ∷ d) j ≡ c
at_here c j d e = cond-true (eqb j (length d)) c (at_power d j) (eq-eqb j (length d) e)

pub at_below : (c j : ℕ) (d : List ℕ) → j < length d → at_power (c ∷ d) j ≡ at_power d j
at_below c j d l = cond-false (eqb j (length d)) c (at_power d j)
    (ne_eqb j (length d) (λ e. absurd (omega arith)))

locator_at-cons : (X : ℕ) (s : Spot) (ss : List Spot) → locator_at X (s ∷ ss) ≡ gf_mul (gf_add X s.X) (locator_at X ss)
unfolding locator_at
locator_at-cons X s ss = refl

-- the value of the locator at a power of 2 tells whether D has a symbol there that is not zero
pub record TellsPlace (D : List ℕ) (j : ℕ) : Type 0 where
  pub none_there : at_power D j ≡ 0 → locator_at (gf_pow 2 j) (spots_of D) ≢ 0
  pub some_there : at_power D j ≢ 0 → locator_at (gf_pow 2 j) (spots_of D) ≡ 0

pub locator_at_place : (D : List ℕ) (j : ℕ) → j < length D → length D ≤ 255 → Symbols D → TellsPlace D j
locator_at_place [] j l b s = absurd (omega arith)
locator_at_place (c ∷ d) j l b s = go (cases_lt j (length d)) (cases_eq c 0)
    (λ l'. locator_at_place d j l' (omega arith) s.1)
  where
    X : ℕ
    X = gf_pow 2 j

    spot : Spot
    spot = record { X = gf_pow 2 (length d); mask = c }

    go : (j < length d) ⊎ (length d ≤ j) → (c ≡ 0) ⊎ (c ≢ 0) → (j < length d → TellsPlace d j) → TellsPlace (c ∷ d) j
    go (inl l') (inl z) ih = record {
      none_there = λ e. subst (λ (ss : List Spot). locator_at X ss ≢ 0) (sym (spots_skip c d z))
          ((ih l').none_there (sym (at_below c j d l') ∙ e));
      some_there = λ n. ap (locator_at X) (spots_skip c d z) ∙ (ih l').some_there (λ e. n (at_below c j d l' ∙ e));
    }
    go (inl l') (inr n) ih = record {
      none_there = λ e z.
          (ih l').none_there (sym (at_below c j d l') ∙ e)
          (mul_cancel_zero (gf_add X spot.X) (locator_at X (spots_of d))
          (add_below X spot.X (pow_below 2 j) (pow_below 2 (length d)))
          (add_some j (length d) (omega arith) (omega arith) (λ e'. absurd (omega arith)))
          (locator_at-below X (spots_of d)) (sym (locator_at-cons X spot (spots_of d))
          ∙ ap (locator_at X) (sym (spots_keep c d n)) ∙ z));
      some_there = λ n'. ap (locator_at X) (spots_keep c d n) ∙ locator_at-cons X spot (spots_of d)
          ∙ ap (gf_mul (gf_add X spot.X)) ((ih l').some_there (λ e. n' (at_below c j d l' ∙ e)))
          ∙ mul_zero (gf_add X spot.X);
    }
    go (inr l') (inl z) ih =
        let e : j ≡ length d = omega arith in record {
          none_there = λ _. subst (λ (ss : List Spot). locator_at X ss ≢ 0) (sym (spots_skip c d z))
              (locator_at_some X (spots_of d) (pow_below 2 j) (spots_of-are d (omega arith) s.1)
              (not_among_spots j d (omega arith) (omega arith)));
          some_there = λ n. absurd (n (at_here c j d e ∙ z));
        }
    go (inr l') (inr n) ih =
        let e : j ≡ length d = omega arith in record {
          none_there = λ z. absurd (n (sym (at_here c j d e) ∙ z));
          some_there = λ _. ap (locator_at X) (spots_keep c d n) ∙ locator_at-cons X spot (spots_of d)
              ∙ ap (λ (i : ℕ). gf_mul (gf_add X (gf_pow 2 i)) (locator_at X (spots_of d))) (sym e)
              ∙ ap (λ (y : ℕ). gf_mul y (locator_at X (spots_of d))) (add_self X)
              ∙ zero_mul (locator_at X (spots_of d));
        }

pub at_power-below : (D : List ℕ) (j : ℕ) → Symbols D → at_power D j < 256
at_power-below [] j s = omega arith
at_power-below (c ∷ d) j s = elim (eqb j (length d)) as (λ b. cond b c (at_power d j) < 256) [
  | true ↦ s.0
  | false ↦ at_power-below d j s.1
]

pub powers_skip : (c : ℕ) (d : List ℕ) → c ≡ 0 → powers_of (c ∷ d) ≡ powers_of d
powers_skip c d e = cond-true (eqb c 0) (powers_of d) (length d ∷ powers_of d) (eq-eqb c 0 e)

pub powers_keep : (c : ℕ) (d : List ℕ) → c ≢ 0 → powers_of (c ∷ d) ≡ length d ∷ powers_of d
powers_keep c d n = cond-false (eqb c 0) (powers_of d) (length d ∷ powers_of d) (ne_eqb c 0 n)

-- ---- the roots are the powers of the places
-- v is zero at the reciprocal of a power of 2 exactly where D has a symbol that is not zero
pub record RootsArePlaces (v : List ℕ) (D : List ℕ) : Type 0 where
  pub root : (j : ℕ) → j < length D → at_power D j ≢ 0 → value_of v (gf_pow 2 (255 - j)) ≡ 0
  pub no_root : (j : ℕ) → j < length D → at_power D j ≡ 0 → value_of v (gf_pow 2 (255 - j)) ≢ 0

pub roots_of_places : (v D : List ℕ) → RootsArePlaces v D → roots_of v (length D) ≡ powers_of D
roots_of_places v [] h = refl
roots_of_places v (c ∷ d) h = go (cases_eq c 0) (roots_of_places v d (record {
  root = λ j l n. h.root j (omega arith) (λ e. n (sym (at_below c j d l) ∙ e));
  no_root = λ j l e. h.no_root j (omega arith) (at_below c j d l ∙ e);
}))
  where
    y : ℕ
    y = gf_pow 2 (255 - length d)

    go : (c ≡ 0) ⊎ (c ≢ 0) → roots_of v (length d) ≡ powers_of d → roots_of v (suc (length d)) ≡ powers_of (c ∷ d)
    go (inl z) r = cond-false (eqb (value_of v y) 0) (length d ∷ roots_of v (length d)) (roots_of v (length d))
        (ne_eqb (value_of v y) 0 (h.no_root (length d) (omega arith) (at_here c (length d) d refl ∙ z))) ∙ r
        ∙ sym (powers_skip c d z)
    go (inr n) r = cond-true (eqb (value_of v y) 0) (length d ∷ roots_of v (length d)) (roots_of v (length d))
        (eq-eqb (value_of v y) 0 (h.root (length d) (omega arith)
        (λ e. n (sym (at_here c (length d) d refl) ∙ e)))) ∙ ap (λ (js : List ℕ). length d ∷ js) r
        ∙ sym (powers_keep c d n)

-- c times the value of v at 1 / X, times a power of X, is the value of the locator
locator_there : (D v r : List ℕ) (c j : ℕ) → IsFound D v r c → j < length D
    → gf_mul c (gf_mul (value_of v (gf_pow 2 (255 - j))) (gf_pow (gf_pow 2 j) (length (spots_of D))))
    ≡ locator_at (gf_pow 2 j) (spots_of D)
locator_there D v r c j h l =
    ap (gf_mul c) (value_of-reciprocal (gf_pow 2 j) (gf_pow 2 (255 - j)) (pow_below 2 j) (pow_below 2 (255 - j))
    (pow_inverse j (omega (arith, h.len))) v h.v_bytes (length (spots_of D)) (omega (arith, h.degree)))
    ∙ sym (horner-scale (gf_pow 2 j) c (length (spots_of D)) (poly v))
    ∙ ap (λ (p : ℕ → ℕ). horner (gf_pow 2 j) p (length (spots_of D))) (sym h.locator_is)
    ∙ horner-locator (gf_pow 2 j) (spots_of D)

pub found_roots : (D v r : List ℕ) (c : ℕ) → IsFound D v r c → RootsArePlaces v D
found_roots D v r c h = record {
  root = λ j l n.
      mul_cancel_zero (gf_pow (gf_pow 2 j) (length (spots_of D))) (value_of v (gf_pow 2 (255 - j)))
      (pow_below (gf_pow 2 j) (length (spots_of D))) (power_some j (length (spots_of D)))
      (value_below v (gf_pow 2 (255 - j)))
      (mul_comm (gf_pow (gf_pow 2 j) (length (spots_of D))) (value_of v (gf_pow 2 (255 - j)))
      ∙ mul_cancel_zero c (gf_mul (value_of v (gf_pow 2 (255 - j))) (gf_pow (gf_pow 2 j) (length (spots_of D))))
      h.c_byte h.c_some (mul_below (value_of v (gf_pow 2 (255 - j))) (gf_pow (gf_pow 2 j) (length (spots_of D))))
      (locator_there D v r c j h l ∙ (locator_at_place D j l h.len h.symbols).some_there n));
  no_root = λ j l e z. (locator_at_place D j l h.len h.symbols).none_there e
      (sym (locator_there D v r c j h l) ∙ ap (λ (x : ℕ). gf_mul c
      (gf_mul x (gf_pow (gf_pow 2 j) (length (spots_of D))))) z
      ∙ ap (gf_mul c) (zero_mul (gf_pow (gf_pow 2 j) (length (spots_of D)))) ∙ mul_zero c);
}

-- ---- one place of Chien's search
root_keeps : (v : List ℕ) (m : ℕ) → value_of v (gf_pow 2 (255 - m)) ≡ 0 → roots_of v (suc m) ≡ m ∷ roots_of v m
root_keeps v m e = cond-true (eqb (value_of v (gf_pow 2 (255 - m))) 0) (m ∷ roots_of v m) (roots_of v m)
    (eq-eqb (value_of v (gf_pow 2 (255 - m))) 0 e)

root_skips : (v : List ℕ) (m : ℕ) → value_of v (gf_pow 2 (255 - m)) ≢ 0 → roots_of v (suc m) ≡ roots_of v m
root_skips v m n = cond-false (eqb (value_of v (gf_pow 2 (255 - m))) 0) (m ∷ roots_of v m) (roots_of v m)
    (ne_eqb (value_of v (gf_pow 2 (255 - m))) 0 n)

pub root_taken : (v q q' : List ℕ) (d m n s : ℕ) → s ≡ suc m → q' ≡ q ++ m ∷ [] → value_of v (gf_pow 2 (255 - m)) ≡ 0
    → take d (q ++ roots_of v s) ≡ take d (roots_of v n) → take d (q' ++ roots_of v m) ≡ take d (roots_of v n)
root_taken v q q' d m n s es eq e h =
    ap (λ (u : List ℕ). take d (u ++ roots_of v m)) eq ∙ ap (take d) (append_assoc q (m ∷ []) (roots_of v m))
    ∙ ap (λ (u : List ℕ). take d (q ++ u)) (sym (root_keeps v m e) ∙ ap (roots_of v) (sym es)) ∙ h

pub root_none : (v q q' : List ℕ) (d m n s : ℕ) → s ≡ suc m → q' ≡ q → value_of v (gf_pow 2 (255 - m)) ≢ 0
    → take d (q ++ roots_of v s) ≡ take d (roots_of v n) → take d (q' ++ roots_of v m) ≡ take d (roots_of v n)
root_none v q q' d m n s es eq ne h =
    ap₂ (λ (u w : List ℕ). take d (u ++ w)) eq (sym (root_skips v m ne) ∙ ap (roots_of v) (sym es)) ∙ h

pub powers_below-255 : (n : ℕ) (js : List ℕ) → n ≤ 255 → PowersBelow n js → Below255 js
powers_below-255 n [] l h = tt
powers_below-255 n (j ∷ js) l h = (let e = h.0 in omega arith, powers_below-255 n js l h.1)

powers_below-more : (m n : ℕ) (js : List ℕ) → m ≤ n → PowersBelow m js → PowersBelow n js
powers_below-more m n [] l h = tt
powers_below-more m n (j ∷ js) l h = (let e = h.0 in omega arith, powers_below-more m n js l h.1)

pub powers_below-at : (n : ℕ) (js : List ℕ) (i : ℕ) → i < length js → PowersBelow n js → get_or js i 0 < n
powers_below-at n [] i l h = absurd (omega arith)
powers_below-at n (j ∷ js) zero l h = h.0
powers_below-at n (j ∷ js) (suc i) l h = powers_below-at n js i (omega arith) h.1

powers_below-take : (n d : ℕ) (js : List ℕ) → PowersBelow n js → PowersBelow n (take d js)
powers_below-take n zero js h = tt
powers_below-take n (suc d) [] h = tt
powers_below-take n (suc d) (j ∷ js) h = (h.0, powers_below-take n d js h.1)

roots_below : (v : List ℕ) (n : ℕ) → PowersBelow n (roots_of v n)
roots_below v zero = tt
roots_below v (suc m) = elim (eqb (value_of v (gf_pow 2 (255 - m))) 0) as
    (λ b. PowersBelow (suc m) (cond b (m ∷ roots_of v m) (roots_of v m))) [
      | true ↦ (omega arith, powers_below-more m (suc m) (roots_of v m) (omega arith) (roots_below v m))
      | false ↦ powers_below-more m (suc m) (roots_of v m) (omega arith) (roots_below v m)
    ]

pub own_roots_below : (v : List ℕ) (d n : ℕ) (js : List ℕ) → js ≡ take d (roots_of v n) → PowersBelow n js
own_roots_below v d n js e = subst (PowersBelow n) (sym e) (powers_below-take n d (roots_of v n) (roots_below v n))

pub powers_of-below : (D : List ℕ) → PowersBelow (length D) (powers_of D)
powers_of-below [] = tt
powers_of-below (c ∷ d) = elim (eqb c 0) as (λ b. PowersBelow (suc (length d))
    (cond b (powers_of d) (length d ∷ powers_of d))) [
      | true ↦ powers_below-more (length d) (suc (length d)) (powers_of d) (omega arith) (powers_of-below d)
      | false ↦ (
        omega arith,
        powers_below-more (length d) (suc (length d)) (powers_of d) (omega arith)
            (powers_of-below d),
      )
    ]

length-powers_of : (D : List ℕ) → length (powers_of D) ≡ length (spots_of D)
length-powers_of [] = ap length (sym spots_of-nil)
length-powers_of (c ∷ d) = go (cases_eq c 0) (length-powers_of d)
  where
    go : (c ≡ 0) ⊎ (c ≢ 0) → length (powers_of d) ≡ length (spots_of d)
        → length (powers_of (c ∷ d)) ≡ length (spots_of (c ∷ d))
    go (inl z) e = ap length (powers_skip c d z) ∙ e ∙ ap length (sym (spots_skip c d z))
    go (inr n) e = ap length (powers_keep c d n) ∙ ap suc e ∙ ap length (sym (spots_keep c d n))

pub found_powers : (n c : ℕ) (v r D ps : List ℕ) → n ≡ length D → IsFound D v r c
    → ps ≡ take (length v - 1) (roots_of v n) → ps ≡ powers_of D
found_powers n c v r D ps en h ep =
    ep ∙ ap (λ (m : ℕ). take (length v - 1) (roots_of v m)) en
    ∙ ap (take (length v - 1)) (roots_of_places v D (found_roots D v r c h))
    ∙ take_all (length v - 1) (powers_of D) (omega (arith, length-powers_of D, h.degree))

pub found_count : (n c : ℕ) (v r D ps : List ℕ) → n ≡ length D → IsFound D v r c
    → ps ≡ take (length v - 1) (roots_of v n) → length ps + 1 ≡ length v
found_count n c v r D ps en h ep = omega (
  arith,
  ap length (found_powers n c v r D ps en h ep),
  length-powers_of D,
  h.degree,
)
