-- The key equation: the locator times the power sums is the evaluator. With it what two solutions of the key equation
-- have to do with each other, for the end of Euclid's algorithm.
use Rattle.std.proofs.Common.{◌≡◌, ℕ, zero, suc, ◌+◌, ◌≤◌, refl, sym, ap, ap₂, ◌∙◌, arith, List, [], ◌∷◌, length}
use Rattle.code_spec.specs.Field.{gf_add, gf_mul, gf_pow}
use Rattle.code_laws.proofs.Ring.{zero_add, mul_zero, mul_below, add_below}
use Rattle.decoder_laws.specs.Series.{plus, scale, times, shift, none, one, Below, Agree, Bytes, linear}
use Rattle.decoder_laws.specs.Locators.{locator, evaluator}
use Rattle.decoder_laws.specs.Euclid.{IsEuclid}
use Rattle.code_laws.specs.Locators.{Spot, power_sum, AreSpots}
use Rattle.decoder_laws.proofs.Series.{times-plus, times_assoc, times_comm, times_left_comm, times-scale}
use Rattle.decoder_laws.proofs.Series.{times-one_left, times-shift, shift_injective, unshift, times-none, one-bytes}
use Rattle.decoder_laws.proofs.Series.{agree_zero, agree_trans, agree_sym, agree_of, times-agree}
use Rattle.decoder_laws.proofs.Horner.{times-linear_left, times-linear, linear-geometric, linear-bytes, linear-below}

pub locator-bytes : (ss : List Spot) → Bytes (locator ss)
unfolding locator linear
locator-bytes [] = one-bytes
locator-bytes (s ∷ ss) = linear-bytes s.X (locator ss) (locator-bytes ss)

power_sum_parts : (s : Spot) (ss : List Spot) → power_sum (s ∷ ss) ≡ plus (λ j. gf_mul s.mask (gf_pow s.X j))
    (power_sum ss)
unfolding plus
power_sum_parts s ss = λ i k. gf_add (gf_mul s.mask (gf_pow s.X k)) (power_sum ss k)

pub key_equation : (ss : List Spot) → AreSpots ss → times (locator ss) (power_sum ss) ≡ evaluator ss
unfolding locator evaluator none
key_equation [] h = times-none one
key_equation (s ∷ ss) h =
    ap (times (linear s.X (locator ss))) (power_sum_parts s ss)
    ∙ times-plus (linear s.X (locator ss)) (λ j. gf_mul s.mask (gf_pow s.X j)) (power_sum ss)
    ∙ ap₂ plus
    (times-linear_left s.X (locator ss) (λ j. gf_mul s.mask (gf_pow s.X j))
    ∙ sym (times-linear s.X (locator ss) (λ j. gf_mul s.mask (gf_pow s.X j)))
    ∙ ap (times (locator ss)) (linear-geometric s.X s.mask h.1) ∙ times-scale s.mask (locator ss) one
    ∙ ap (scale s.mask) (times_comm (locator ss) one ∙ times-one_left (locator ss) (locator-bytes ss)))
    (times-linear_left s.X (locator ss) (power_sum ss) ∙ ap (linear s.X) (key_equation ss h.3))

pub locator-below : (ss : List Spot) → Below (suc (length ss)) (locator ss)
unfolding locator one none
locator-below [] = record { at = go }
  where
    go : (k : ℕ) → 1 ≤ k → one k ≡ 0
    go zero l = absurd (omega arith)
    go (suc k) l = refl
locator-below (s ∷ ss) = linear-below (suc (length ss)) s.X (locator ss) (locator-below ss)

pub evaluator-below : (ss : List Spot) → Below (length ss) (evaluator ss)
unfolding evaluator plus scale none
evaluator-below [] = record { at = λ k l. refl }
evaluator-below (s ∷ ss) = record {
  at = λ k l. ap₂ gf_add
      (ap (gf_mul s.mask) ((locator-below ss).at k l) ∙ mul_zero s.mask)
      ((linear-below (length ss) s.X (evaluator ss) (evaluator-below ss)).at k l) ∙ zero_add 0;
}

pub locator-zero : (ss : List Spot) → locator ss 0 ≡ 1
unfolding locator one linear
locator-zero [] = refl
locator-zero (s ∷ ss) = locator-zero ss

-- for two solutions, v0 r' and v' r0 agree
pub cross : (n : ℕ) (S v r w s : ℕ → ℕ) → Agree n (times v S) r → Agree n (times w S) s
    → Agree n (times v s) (times w r)
cross n S v r w s h k =
    agree_trans n (times v s) (times v (times w S)) (times w r)
    (agree_sym n (times v (times w S)) (times v s) (times-agree n v (times w S) s k))
    (agree_trans n (times v (times w S)) (times w (times v S)) (times w r)
    (agree_of n (times v (times w S)) (times w (times v S)) (times_left_comm v w S))
    (times-agree n w (times v S) r h))

unfoldable pub quotient : ℕ → (ℕ → ℕ) → (ℕ → ℕ) → (ℕ → ℕ) → (ℕ → ℕ) → ℕ → ℕ
quotient n v0 r0 v' r' k = plus (times v0 r') (times v' r0) (n + k)

pub multiple : (n : ℕ) (S v v' r r' v0 r0 : ℕ → ℕ) → IsEuclid n S v v' r r' → Agree n (times v0 S) r0 → Bytes v0
    → Bytes r0
    → times v0 r ≡ times v r0
    → (v0 ≡ times v (quotient n v0 r0 v' r')) × (r0 ≡ times r (quotient n v0 r0 v' r'))
unfolding quotient
multiple n S v v' r r' v0 r0 h k b b' e =
    let N : ℕ → ℕ = quotient n v0 r0 v' r' in
    let D : ℕ → ℕ = plus (times v0 r') (times v' r0) in
    let d : D ≡ shift n N = unshift n D (agree_zero n (times v0 r') (times v' r0) (cross n S v0 r0 v' r' k h.solved))
    in (
      shift_injective n v0 (times v N)
          (sym (ap (shift n) (times_comm v0 one ∙ times-one_left v0 b)) ∙ sym (times-shift n v0 one)
          ∙ ap (times v0) (sym h.determinant)
          ∙ times-plus v0 (times v r') (times v' r)
          ∙ ap₂ plus (times_left_comm v0 v r') (times_left_comm v0 v' r ∙ ap (times v') e ∙ times_left_comm v' v r0)
          ∙ sym (times-plus v (times v0 r') (times v' r0)) ∙ ap (times v) d ∙ times-shift n v N),
      shift_injective n r0 (times r N)
          (sym (ap (shift n) (times_comm r0 one ∙ times-one_left r0 b')) ∙ sym (times-shift n r0 one)
          ∙ ap (times r0) (sym h.determinant)
          ∙ times-plus r0 (times v r') (times v' r)
          ∙ ap₂ plus (sym (times_assoc r0 v r') ∙ ap (λ (x : ℕ → ℕ). times x r')
          (times_comm r0 v ∙ sym e ∙ times_comm v0 r) ∙ times_assoc r v0 r')
          (times_left_comm r0 v' r ∙ ap (times v') (times_comm r0 r) ∙ times_left_comm v' r r0)
          ∙ sym (times-plus r (times v0 r') (times v' r0)) ∙ ap (times r) d ∙ times-shift n r N),
    )

pub evaluator-bytes : (ss : List Spot) → Bytes (evaluator ss)
unfolding evaluator plus scale none
evaluator-bytes [] = record { at = λ k. omega arith }
evaluator-bytes (s ∷ ss) = record {
  at = λ k. add_below (gf_mul s.mask (locator ss k)) (linear s.X (evaluator ss) k)
      (mul_below s.mask (locator ss k)) ((linear-bytes s.X (evaluator ss) (evaluator-bytes ss)).at k);
}
