-- the law of distance: power sums that vanish from 0 to r - 1 leave no mask on r spots
use Rattle.std.proofs.Common.{◌≡◌, ℕ, zero, suc, ◌≤◌, ◌<◌, refl, sym, ap, ap₂, ◌∙◌, arith, List, [], ◌∷◌, length}
use Rattle.code_spec.specs.Field.{gf_add, gf_mul, gf_pow}
use Rattle.code_laws.proofs.Ring.{ring, sums, zero_add, add_zero, mul_add, mul_comm, zero_mul, mul_zero, mul_one}
use Rattle.code_laws.proofs.Ring.{mul_below, add_below, equal_from_add, mul_cancel_zero, pow_suc, pow_zero}
use Rattle.code_laws.specs.Locators.{Spot, power_sum, NotAmong, AreSpots, NoMask}

-- each mask times the sum of its locator and X
thinned : ℕ → List Spot → List Spot
thinned X [] = []
thinned X (s ∷ ss) = record { X = s.X; mask = gf_mul s.mask (gf_add s.X X) } ∷ thinned X ss

step_alg : (m x X p s : ℕ) → gf_add (gf_mul m (gf_mul x p)) (gf_mul X (gf_mul m p)) ≡ gf_mul (gf_mul m (gf_add x X)) p
step_alg m x X p s = simp ring

power_sum_thinned : (X k : ℕ) (ss : List Spot) → gf_add (power_sum ss (suc k)) (gf_mul X (power_sum ss k))
    ≡ power_sum (thinned X ss) k
unfolding thinned
power_sum_thinned X k [] = ap (gf_add 0) (mul_zero X) ∙ zero_add 0
power_sum_thinned X k (s ∷ ss) =
    ap₂ (λ (x y : ℕ). gf_add (gf_add (gf_mul s.mask x) (power_sum ss (suc k))) y) (pow_suc s.X k)
    (mul_add X (gf_mul s.mask (gf_pow s.X k)) (power_sum ss k))
    ∙ swap (gf_mul s.mask (gf_mul s.X (gf_pow s.X k))) (power_sum ss (suc k))
    (gf_mul X (gf_mul s.mask (gf_pow s.X k))) (gf_mul X (power_sum ss k))
    ∙ ap₂ gf_add (step_alg s.mask s.X X (gf_pow s.X k) 0) (power_sum_thinned X k ss)
  where
    swap : (a b c d : ℕ) → gf_add (gf_add a b) (gf_add c d) ≡ gf_add (gf_add a c) (gf_add b d)
    swap a b c d = simp sums

length-thinned : (X : ℕ) (ss : List Spot) → length (thinned X ss) ≡ length ss
unfolding thinned
length-thinned X [] = refl
length-thinned X (s ∷ ss) = ap suc (length-thinned X ss)

not_among-thinned : (Y X : ℕ) (ss : List Spot) → NotAmong Y ss → NotAmong Y (thinned X ss)
unfolding thinned
not_among-thinned Y X [] h = tt
not_among-thinned Y X (s ∷ ss) h = (h.0, not_among-thinned Y X ss h.1)

spots-thinned : (X : ℕ) (ss : List Spot) → AreSpots ss → AreSpots (thinned X ss)
unfolding thinned
spots-thinned X [] h = tt
spots-thinned X (s ∷ ss) h = (
  h.0,
  mul_below s.mask (gf_add s.X X),
  not_among-thinned s.X X ss h.2,
  spots-thinned X ss h.3,
)

-- a mask that vanishes when it is multiplied by a sum that does not
no_mask-thinned : (X : ℕ) (ss : List Spot) → X < 256 → NotAmong X ss → AreSpots ss → NoMask (thinned X ss) → NoMask ss
unfolding thinned
no_mask-thinned X [] b n h z = tt
no_mask-thinned X (s ∷ ss) b n h z = (
  mul_cancel_zero (gf_add s.X X) s.mask (add_below s.X X h.0 b) (λ e. n.0 (sym (equal_from_add s.X X e))) h.1
      (mul_comm (gf_add s.X X) s.mask ∙ z.0),
  no_mask-thinned X ss b n.1 h.3 z.1,
)

power_sum-no_mask : (k : ℕ) (ss : List Spot) → NoMask ss → power_sum ss k ≡ 0
power_sum-no_mask k [] z = refl
power_sum-no_mask k (s ∷ ss) z =
    ap₂ gf_add (ap (λ (x : ℕ). gf_mul x (gf_pow s.X k)) z.0 ∙ zero_mul (gf_pow s.X k)) (power_sum-no_mask k ss z.1)
    ∙ zero_add 0

pub distance : (r : ℕ) (ss : List Spot) → length ss ≤ r → AreSpots ss → ((k : ℕ) → k < r → power_sum ss k ≡ 0)
    → NoMask ss
distance r [] l h z = tt
distance zero (s ∷ ss) l h z = absurd (omega arith)
distance (suc r) (s ∷ ss) l h z =
    let rest : NoMask ss =
    no_mask-thinned s.X ss h.0 h.2 h.3
    (distance r (thinned s.X ss) (rw length-thinned (omega arith)) (spots-thinned s.X ss h.3)
    (λ k k_below. sym (power_sum_thinned s.X k ss) ∙ head_gone s ss k (z k (omega arith)) (z (suc k) (omega arith))))
    in (
      sym (mul_one s.mask h.1) ∙ ap (gf_mul s.mask) (sym (pow_zero s.X)) ∙ sym (add_zero (gf_mul s.mask (gf_pow s.X 0)))
          ∙ ap (gf_add (gf_mul s.mask (gf_pow s.X 0))) (sym (power_sum-no_mask 0 ss rest)) ∙ z 0 (omega arith),
      rest,
    )
  where
    alg : (m x p a b : ℕ) → gf_add a (gf_mul x b) ≡ gf_add (gf_add (gf_mul m (gf_mul x p)) a)
        (gf_mul x (gf_add (gf_mul m p) b))
    alg m x p a b = simp ring

    head_gone : (s : Spot) (ss : List Spot) (k : ℕ) → power_sum (s ∷ ss) k ≡ 0 → power_sum (s ∷ ss) (suc k) ≡ 0
        → gf_add (power_sum ss (suc k)) (gf_mul s.X (power_sum ss k)) ≡ 0
    head_gone s ss k e e' =
        alg s.mask s.X (gf_pow s.X k) (power_sum ss (suc k)) (power_sum ss k)
        ∙ ap₂ (λ (x y : ℕ). gf_add (gf_add (gf_mul s.mask x) (power_sum ss (suc k))) (gf_mul s.X y))
        (sym (pow_suc s.X k)) e
        ∙ ap₂ gf_add e' (mul_zero s.X) ∙ zero_add 0
