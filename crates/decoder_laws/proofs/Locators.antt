-- Values of the locator and of the evaluator at the locators, and that a polynomial with more roots than its degree is
-- zero. For the end of Euclid's algorithm, Chien's search and Forney's formula.
use Rattle.std.proofs.Common.{◌≡◌, ◌≢◌, ℕ, zero, suc, ◌<◌, refl, sym, ap, ap₂, ◌∙◌, arith, List, [], ◌∷◌, length}
use Rattle.std.proofs.Common.{zero-le}
use Rattle.code_spec.specs.Field.{gf_add, gf_mul}
use Rattle.code_laws.proofs.Ring.{add_self, zero_add, add_zero, mul_left_comm, zero_mul, mul_zero, mul_below, add_below}
use Rattle.code_laws.proofs.Ring.{equal_from_add, mul_cancel_zero}
use Rattle.decoder_laws.specs.Series.{scale, one, Below, Bytes, linear, horner}
use Rattle.decoder_laws.specs.Locators.{locator, evaluator}
use Rattle.code_laws.specs.Locators.{Spot, NotAmong, AreSpots}
use Rattle.decoder_laws.proofs.Horner.{horner-plus, horner-scale, horner-linear, linear-horner, horner-bytes}
use Rattle.decoder_laws.proofs.Horner.{horner-factor, root_below, linear-zero}
use Rattle.decoder_laws.proofs.KeyEquation.{locator-below, evaluator-below}

-- the product of X + Y over the locators Y: the value of the locator at 1 / X, times a power of X
unfoldable pub locator_at : ℕ → List Spot → ℕ
locator_at X [] = 1
locator_at X (s ∷ ss) = gf_mul (gf_add X s.X) (locator_at X ss)

pub horner-locator : (X : ℕ) (ss : List Spot) → horner X (locator ss) (length ss) ≡ locator_at X ss
unfolding locator_at locator horner one
horner-locator X [] = refl
horner-locator X (s ∷ ss) = horner-factor X s.X (length ss) (locator ss) (locator-below ss)
    ∙ ap (gf_mul (gf_add X s.X)) (horner-locator X ss)

pub locator_at-below : (X : ℕ) (ss : List Spot) → locator_at X ss < 256
unfolding locator_at
locator_at-below X [] = omega arith
locator_at-below X (s ∷ ss) = mul_below (gf_add X s.X) (locator_at X ss)

pub locator_at_some : (X : ℕ) (ss : List Spot) → X < 256 → AreSpots ss → NotAmong X ss → locator_at X ss ≢ 0
unfolding locator_at
locator_at_some X [] b h n e = absurd (cc)
locator_at_some X (s ∷ ss) b h n e =
    locator_at_some X ss b h.3 n.1 (mul_cancel_zero (gf_add X s.X) (locator_at X ss) (add_below X s.X b h.0)
    (λ z. n.0 (equal_from_add X s.X z)) (locator_at-below X ss) e)

-- each spot's locator is a root of p, of degree at most d
abbrev pub AllRoots : ℕ → (ℕ → ℕ) → List Spot → Type 0
AllRoots d p [] = Unit {0}
AllRoots d p (s ∷ ss) = (horner s.X p d ≡ 0) × AllRoots d p ss

-- the other roots stay when one is divided out
roots_left : (X d : ℕ) (p : ℕ → ℕ) (ss : List Spot) → X < 256 → NotAmong X ss → AreSpots ss → Bytes p
    → Below (suc d) (horner X p) → AllRoots (suc d) p ss → AllRoots d (horner X p) ss
roots_left X d p [] b n h bp l r = tt
roots_left X d p (s ∷ ss) b n h bp l r = (
  mul_cancel_zero (gf_add s.X X) (horner s.X (horner X p) d) (add_below s.X X h.0 b)
      (λ z. n.0 (sym (equal_from_add s.X X z)))
      ((horner-bytes s.X (horner X p) (horner-bytes X p bp)).at d)
      (sym (horner-factor s.X X d (horner X p) l) ∙ ap (λ (f : ℕ → ℕ). horner s.X f (suc d)) (linear-horner X p) ∙ r.0),
  roots_left X d p ss b n.1 h.3 bp l r.1,
)

-- a polynomial with more roots than its degree is zero
pub root_bound : (d : ℕ) (p : ℕ → ℕ) (ss : List Spot) → Bytes p → Below (suc d) p → AreSpots ss → AllRoots d p ss
    → d < length ss → (k : ℕ) → p k ≡ 0
root_bound d p [] bp h a r l k = absurd (omega arith)
root_bound zero p (s ∷ ss) bp h a r l k =
    ap (λ (f : ℕ → ℕ). f k) (sym (linear-horner s.X p)) ∙ linear-zero s.X (horner s.X p)
    (λ j. (root_below s.X 0 p h r.0).at j zero-le) k
root_bound (suc d) p (s ∷ ss) bp h a r l k =
    ap (λ (f : ℕ → ℕ). f k) (sym (linear-horner s.X p))
    ∙ linear-zero s.X (horner s.X p)
    (root_bound d (horner s.X p) ss (horner-bytes s.X p bp) (root_below s.X (suc d) p h r.0) a.3
    (roots_left s.X d p ss a.0 a.2 a.3 bp (root_below s.X (suc d) p h r.0) r.1) (omega arith)) k

-- ---- the evaluator's values
unfoldable pub spot_at : ℕ → List Spot → Spot
spot_at i [] = record { X = 0; mask = 0 }
spot_at zero (s ∷ ss) = s
spot_at (suc i) (s ∷ ss) = spot_at i ss

unfoldable pub others : ℕ → List Spot → List Spot
others i [] = []
others zero (s ∷ ss) = ss
others (suc i) (s ∷ ss) = s ∷ others i ss

-- the locator of a spot is a root of the locator polynomial
pub locator_at_own : (i : ℕ) (ss : List Spot) → i < length ss → locator_at (spot_at i ss).X ss ≡ 0
unfolding locator_at spot_at
locator_at_own i [] l = absurd (omega arith)
locator_at_own zero (s ∷ ss) l = ap (λ (x : ℕ). gf_mul x (locator_at s.X ss)) (add_self s.X)
    ∙ zero_mul (locator_at s.X ss)
locator_at_own (suc i) (s ∷ ss) l = ap (gf_mul (gf_add (spot_at i ss).X s.X)) (locator_at_own i ss (omega arith))
    ∙ mul_zero (gf_add (spot_at i ss).X s.X)

pub horner-evaluator_cons : (s : Spot) (ss : List Spot) (X k : ℕ)
    → horner X (evaluator (s ∷ ss)) k ≡ gf_add (gf_mul s.mask (horner X (locator ss) k))
    (horner X (linear s.X (evaluator ss)) k)
unfolding evaluator
horner-evaluator_cons s ss X k = horner-plus X k (scale s.mask (locator ss)) (linear s.X (evaluator ss))
    ∙ ap (λ (x : ℕ). gf_add x (horner X (linear s.X (evaluator ss)) k)) (horner-scale X s.mask k (locator ss))

-- the value of the evaluator at a spot is its mask times the value of the other spots' locator
pub horner-evaluator_spot : (i n : ℕ) (ss : List Spot) → length ss ≡ suc n → i < length ss
    → horner (spot_at i ss).X (evaluator ss) n ≡ gf_mul (spot_at i ss).mask (locator_at (spot_at i ss).X (others i ss))
unfolding spot_at others locator_at
horner-evaluator_spot i n [] e l = absurd (omega arith)
horner-evaluator_spot zero n (s ∷ ss) e l =
    horner-evaluator_cons s ss s.X n
    ∙ ap₂ gf_add
    (ap (gf_mul s.mask) (ap (horner s.X (locator ss)) (omega (arith, e)) ∙ horner-locator s.X ss))
    (ap (λ (f : ℕ → ℕ). f n) (horner-linear s.X (evaluator ss)) ∙ (evaluator-below ss).at n (omega (arith, e)))
    ∙ add_zero (gf_mul s.mask (locator_at s.X ss))
horner-evaluator_spot (suc i) zero (s ∷ ss) e l = absurd (omega (arith, e))
horner-evaluator_spot (suc i) (suc n) (s ∷ ss) e l =
    let X : ℕ = (spot_at i ss).X in
    let root : horner X (locator ss) (suc n) ≡ 0 = ap (horner X (locator ss)) (omega (arith, e)) ∙ horner-locator X ss
    ∙ locator_at_own i ss (omega arith) in
    let low : Below (suc n) (evaluator ss) = record { at = λ k h. (evaluator-below ss).at k (omega (arith, e)) } in
    horner-evaluator_cons s ss X (suc n)
    ∙ ap₂ gf_add (ap (gf_mul s.mask) root ∙ mul_zero s.mask)
    (horner-factor X s.X n (evaluator ss) low ∙ ap (gf_mul (gf_add X s.X))
    (horner-evaluator_spot i n ss (omega (arith, e)) (omega arith)))
    ∙ zero_add (gf_mul (gf_add X s.X) (gf_mul (spot_at i ss).mask (locator_at X (others i ss))))
    ∙ mul_left_comm (gf_add X s.X) (spot_at i ss).mask (locator_at X (others i ss))
