-- The pair at which Euclid's algorithm stops is the locator and the evaluator, up to a factor. For the theorem in
-- Damage.
use Rattle.std.proofs.lemmas.Bool.{cases_lt}
use Rattle.std.proofs.Common.{◌≡◌, ◌≢◌, ℕ, zero, suc, ◌+◌, ◌-◌, ◌≤◌, ◌<◌, refl, sym, ap, ap₂, ◌∙◌, subst, arith, List}
use Rattle.std.proofs.Common.{[], ◌∷◌, length, ◌⊎◌, inl, inr}
use Rattle.code_spec.specs.Field.{gf_add, gf_mul, gf_pow}
use Rattle.code_laws.proofs.Ring.{zero_add, mul_comm, zero_mul, mul_zero, mul_below, add_below, mul_cancel_zero}
use Rattle.code_laws.proofs.Ring.{pow_below}
use Rattle.decoder_laws.specs.Series.{plus, scale, times, one, Below, Agree, Bytes, horner}
use Rattle.decoder_laws.specs.Locators.{locator, evaluator}
use Rattle.decoder_laws.specs.Euclid.{IsEuclid, IsStop}
use Rattle.code_laws.specs.Locators.{Spot, power_sum, NotAmong, AreSpots}
use Rattle.decoder_laws.proofs.Series.{times_comm, times-scale, times-one_left, times-below, times-bytes}
use Rattle.decoder_laws.proofs.Series.{equal_from_agree, agree_trans, agree_of, times-agree, below_weaken, below_comm}
use Rattle.decoder_laws.proofs.Series.{constant}
use Rattle.decoder_laws.proofs.KeyEquation.{quotient, multiple, key_equation, cross, locator-bytes, locator-below}
use Rattle.decoder_laws.proofs.KeyEquation.{locator-zero, evaluator-below, evaluator-bytes}
use Rattle.decoder_laws.proofs.Locators.{spot_at, others, locator_at, locator_at_some, locator_at-below, locator_at_own}
use Rattle.decoder_laws.proofs.Locators.{horner-locator, horner-evaluator_spot, AllRoots, root_bound}
use Rattle.decoder_laws.proofs.Horner.{horner-product, horner_past, horner-bytes}
use Rattle.decoder_laws.proofs.Powers.{pow_some}

-- no locator and no mask is zero
abbrev pub AreNonzero : List Spot → Type 0
AreNonzero [] = Unit {0}
AreNonzero (s ∷ ss) = (s.X ≢ 0) × (s.mask ≢ 0) × AreNonzero ss

not_among_others : (Y i : ℕ) (ss : List Spot) → NotAmong Y ss → NotAmong Y (others i ss)
unfolding others
not_among_others Y i [] n = tt
not_among_others Y zero (s ∷ ss) n = n.1
not_among_others Y (suc i) (s ∷ ss) n = (n.0, not_among_others Y i ss n.1)

differs : (Y i : ℕ) (ss : List Spot) → i < length ss → NotAmong Y ss → (spot_at i ss).X ≢ Y
unfolding spot_at
differs Y i [] l n e = absurd (omega arith)
differs Y zero (s ∷ ss) l n e = n.0 (sym e)
differs Y (suc i) (s ∷ ss) l n e = differs Y i ss (omega arith) n.1 e

spots_others : (i : ℕ) (ss : List Spot) → AreSpots ss → AreSpots (others i ss)
unfolding others
spots_others i [] h = tt
spots_others zero (s ∷ ss) h = h.3
spots_others (suc i) (s ∷ ss) h = (h.0, h.1, not_among_others s.X i ss h.2, spots_others i ss h.3)

not_among_own : (i : ℕ) (ss : List Spot) → i < length ss → AreSpots ss → NotAmong (spot_at i ss).X (others i ss)
unfolding others spot_at
not_among_own i [] l h = tt
not_among_own zero (s ∷ ss) l h = h.2
not_among_own (suc i) (s ∷ ss) l h = (differs s.X i ss (omega arith) h.2, not_among_own i ss (omega arith) h.3)

record SpotFacts (s : Spot) : Type 0 where
  X_byte : s.X < 256
  X_some : s.X ≢ 0
  mask_byte : s.mask < 256
  mask_some : s.mask ≢ 0

spot_facts : (i : ℕ) (ss : List Spot) → i < length ss → AreSpots ss → AreNonzero ss → SpotFacts (spot_at i ss)
unfolding spot_at
spot_facts i [] l h n = absurd (omega arith)
spot_facts zero (s ∷ ss) l h n = record { X_byte = h.0; X_some = n.0; mask_byte = h.1; mask_some = n.1 }
spot_facts (suc i) (s ∷ ss) l h n = spot_facts i ss (omega arith) h.3 n.2

all_roots : (d : ℕ) (p : ℕ → ℕ) (ss : List Spot) → ((i : ℕ) → i < length ss → horner (spot_at i ss).X p d ≡ 0)
    → AllRoots d p ss
unfolding spot_at
all_roots d p [] h = tt
all_roots d p (s ∷ ss) h = (h 0 (omega arith), all_roots d p ss (λ i l. h (suc i) (omega arith)))

-- two solutions: the products across are equal
crossed : (t d w : ℕ) (S v v' r r' v0 r0 : ℕ → ℕ) (e : ℕ) → IsStop t d w v v' r r' → IsEuclid (t + t) S v v' r r'
    → Agree (t + t) (times v0 S) r0 → e ≤ t → Below (suc e) v0 → Below e r0 → times v0 r ≡ times v r0
crossed t d w S v v' r r' v0 r0 e h k a l horner hr =
    equal_from_agree (t + t) (times v0 r) (times v r0) (cross (t + t) S v0 r0 v r a k.solves)
    (below_comm (t + t) r v0 (below_weaken (t + e) (t + t) (times r v0) (omega arith)
    (times-below t e r v0 h.r_low horner)))
    (below_comm (t + t) r0 v (below_weaken (e + d) (t + t) (times r0 v) (omega (arith, h.within))
    (times-below e d r0 v hr h.v_low)))

quotient_low : (t d w e : ℕ) (v v' r r' v0 r0 : ℕ → ℕ) → IsStop t d w v v' r r' → e ≤ t → Below (suc e) v0
    → Below e r0 → Below (suc e - d) (quotient (t + t) v0 r0 v' r')
unfolding quotient plus
quotient_low t d w e v v' r r' v0 r0 h l horner hr = record {
  at = λ k l'.
      ap₂ gf_add
      ((times-below (suc e) w v0 r' horner h.r'_low).at (t + t + k) (omega (arith, h.degrees)))
      ((below_comm (e + t) r0 v' (times-below e t r0 v' hr h.v'_low)).at (t + t + k) (omega arith))
      ∙ zero_add 0;
}

quotient_bytes : (n : ℕ) (v0 r0 v' r' : ℕ → ℕ) → Bytes (quotient n v0 r0 v' r')
unfolding quotient plus
quotient_bytes n v0 r0 v' r' = record {
  at = λ k. add_below (times v0 r' (n + k)) (times v' r0 (n + k))
      ((times-bytes v0 r').at (n + k)) ((times-bytes v' r0).at (n + k));
}

-- a factor that the evaluator does not share: each spot's locator is a root of v
root_of : (t1 d e1 i : ℕ) (v r N : ℕ → ℕ) (ss : List Spot) → AreSpots ss → AreNonzero ss → length ss ≡ suc e1
    → e1 ≤ t1 → d ≤ suc e1 → i < suc e1
    → Below (suc d) v → Bytes v → Below (suc t1) r → Below (suc (suc e1 - d)) N → Bytes N → locator ss ≡ times v N
    → evaluator ss ≡ times r N
    → horner (spot_at i ss).X v d ≡ 0
root_of t1 d e1 i v r N ss h n le l ld li lv bv lr lN bN ev er =
    let X : ℕ = (spot_at i ss).X in
    let j : ℕ = t1 + (suc e1 - d) - e1 in
    let li' : i < length ss = omega (arith, le) in
    let f = spot_facts i ss li' h n in
    let at_v : gf_mul (horner X N (suc e1 - d)) (horner X v d) ≡ 0 =
    mul_comm (horner X N (suc e1 - d)) (horner X v d) ∙ sym (horner-product X d (suc e1 - d) v N f.X_byte lv lN bN)
    ∙ ap (λ (g : ℕ → ℕ). horner X g (d + (suc e1 - d))) (sym ev) ∙ ap (horner X (locator ss)) (omega (arith, le))
    ∙ horner-locator X ss ∙ locator_at_own i ss li' in
    let own : ℕ = locator_at X (others i ss) in
    let at_r : gf_mul (gf_pow X j) (gf_mul (spot_at i ss).mask own) ≡ gf_mul (horner X r t1) (horner X N (suc e1 - d)) =
    ap (gf_mul (gf_pow X j)) (sym (horner-evaluator_spot i e1 ss le li'))
    ∙ sym (horner_past X e1 j (evaluator ss) (evaluator-bytes ss)
    (subst (λ (x : ℕ). Below x (evaluator ss)) le (evaluator-below ss)))
    ∙ ap (horner X (evaluator ss)) (omega arith)
    ∙ ap (λ (g : ℕ → ℕ). horner X g (t1 + (suc e1 - d))) er
    ∙ horner-product X t1 (suc e1 - d) r N f.X_byte lr lN bN in
    let some : horner X N (suc e1 - d) ≢ 0 = λ z.
    locator_at_some X (others i ss) f.X_byte (spots_others i ss h) (not_among_own i ss li' h)
    (mul_cancel_zero (spot_at i ss).mask own f.mask_byte f.mask_some (locator_at-below X (others i ss))
    (mul_cancel_zero (gf_pow X j) (gf_mul (spot_at i ss).mask own) (pow_below X j) (pow_some X j f.X_byte f.X_some)
    (mul_below (spot_at i ss).mask own)
    (at_r ∙ ap (gf_mul (horner X r t1)) z ∙ mul_zero (horner X r t1)))) in
    mul_cancel_zero (horner X N (suc e1 - d)) (horner X v d) ((horner-bytes X N bN).at (suc e1 - d)) some
    ((horner-bytes X v bv).at d)
    at_v

zero_coefficient : (v N : ℕ → ℕ) (ss : List Spot) → locator ss ≡ times v N → gf_mul (v 0) (N 0) ≡ 1
unfolding times
zero_coefficient v N ss e = ap (λ (f : ℕ → ℕ). f 0) (sym e) ∙ locator-zero ss

-- a quotient that is a constant
scaled : (v N : ℕ → ℕ) → Bytes v → Bytes N → Below 1 N → times v N ≡ scale (N 0) v
scaled v N bv bN lN = ap (times v) (constant N bN lN) ∙ times-scale (N 0) v one
    ∙ ap (scale (N 0)) (times_comm v one ∙ times-one_left v bv)

all_roots_of : (t d e : ℕ) (v r N : ℕ → ℕ) (ss : List Spot) → AreSpots ss → AreNonzero ss → length ss ≡ e → e ≤ t
    → d ≤ e
    → Below (suc d) v → Bytes v → Below t r → Below (suc (e - d)) N → Bytes N → locator ss ≡ times v N
    → evaluator ss ≡ times r N
    → AllRoots d v ss
all_roots_of t d zero v r N ss h n le l ld lv bv lr lN bN ev er = all_roots d v ss (λ i li. absurd (omega (arith, le)))
all_roots_of zero d (suc e1) v r N ss h n le l ld lv bv lr lN bN ev er = absurd (omega arith)
all_roots_of (suc t1) d (suc e1) v r N ss h n le l ld lv bv lr lN bN ev er =
    all_roots d v ss (λ i li. root_of t1 d e1 i v r N ss h n le (omega arith) ld (omega (arith, le))
    lv bv lr lN bN ev er)

one_is_some : (a b : ℕ) → gf_mul a b ≡ 1 → a ≡ 0 → ⊥
one_is_some a b e z = absurd (let f : 1 ≡ 0 = sym e ∙ ap (λ (x : ℕ). gf_mul x b) z ∙ zero_mul b in cc)

same_degree : (t d : ℕ) (v r N : ℕ → ℕ) (ss : List Spot) → AreSpots ss → AreNonzero ss → length ss ≤ t
    → Below (suc d) v → Bytes v → Below t r → Below (suc (length ss) - d) N → Bytes N → locator ss ≡ times v N
    → evaluator ss ≡ times r N
    → (d ≤ length ss) ⊎ (length ss < d) → d ≡ length ss
same_degree t d v r N ss h n l lv bv lr lN bN ev er (inr above) =
    absurd (one_is_some (N 0) (v 0) (mul_comm (N 0) (v 0) ∙ zero_coefficient v N ss ev) (lN.at 0 (omega arith)))
same_degree t d v r N ss h n l lv bv lr lN bN ev er (inl within) =
    let roots = all_roots_of t d (length ss) v r N ss h n refl l within lv bv lr
    (below_weaken (suc (length ss) - d) (suc (length ss - d)) N (omega arith) lN) bN ev er in
    conclude (cases_lt d (length ss)) (λ less. one_is_some (v 0) (N 0) (zero_coefficient v N ss ev)
    (root_bound d v ss bv lv h roots less 0))
  where
    conclude : (d < length ss) ⊎ (length ss ≤ d) → (d < length ss → ⊥) → d ≡ length ss
    conclude (inl less) never = absurd (never less)
    conclude (inr more) never = omega arith

pub stop_is_locator : (t d w : ℕ) (S v v' r r' : ℕ → ℕ) (ss : List Spot) → AreSpots ss → AreNonzero ss → length ss ≤ t
    → Agree (t + t) S (power_sum ss) → IsEuclid (t + t) S v v' r r' → IsStop t d w v v' r r'
    → (d ≡ length ss) × ((c : ℕ) × (c < 256) × (gf_mul (v 0) c ≡ 1) × (locator ss ≡ scale c v)
    × (evaluator ss ≡ scale c r))
stop_is_locator t d w S v v' r r' ss h n l a k s =
    let v0 : ℕ → ℕ = locator ss in
    let r0 : ℕ → ℕ = evaluator ss in
    let N : ℕ → ℕ = quotient (t + t) v0 r0 v' r' in
    let solves : Agree (t + t) (times v0 S) r0 =
    agree_trans (t + t) (times v0 S) (times v0 (power_sum ss)) r0 (times-agree (t + t) v0 S (power_sum ss) a)
    (agree_of (t + t) (times v0 (power_sum ss)) r0 (key_equation ss h)) in
    let e : times v0 r ≡ times v r0 = crossed t d w S v v' r r' v0 r0 (length ss) s k solves l (locator-below ss)
    (evaluator-below ss) in
    let m = multiple (t + t) S v v' r r' v0 r0 k solves (locator-bytes ss) (evaluator-bytes ss) e in
    let low : Below (suc (length ss) - d) N = quotient_low t d w (length ss) v v' r r' v0 r0 s l (locator-below ss)
    (evaluator-below ss) in
    finish t d v r N ss h n l s.v_low s.bytes s.r_low s.r_bytes low (quotient_bytes (t + t) v0 r0 v' r') m.0 m.1
  where
    finish : (t d : ℕ) (v r N : ℕ → ℕ) (ss : List Spot) → AreSpots ss → AreNonzero ss → length ss ≤ t
        → Below (suc d) v → Bytes v → Below t r → Bytes r → Below (suc (length ss) - d) N → Bytes N
        → locator ss ≡ times v N → evaluator ss ≡ times r N
        → (d ≡ length ss) × ((c : ℕ) × (c < 256) × (gf_mul (v 0) c ≡ 1) × (locator ss ≡ scale c v)
        × (evaluator ss ≡ scale c r))
    finish t d v r N ss h n l lv bv lr br lN bN ev er =
        let e : d ≡ length ss = same_degree t d v r N ss h n l lv bv lr lN bN ev er (either d (length ss)) in
        let c : Below 1 N = below_weaken (suc (length ss) - d) 1 N (omega (arith, e)) lN in
        (e, (N 0, bN.at 0, zero_coefficient v N ss ev, ev ∙ scaled v N bv bN c, er ∙ scaled r N br bN c))
      where
        either : (a b : ℕ) → (a ≤ b) ⊎ (b < a)
        either a b = grind arith
