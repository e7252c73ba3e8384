-- Where a locator has as many roots among a word's places as its degree, and the evaluator is shorter, the fixes of
-- Chien's search and Forney's formula have the syndromes as their values: the word with them is a codeword as far as the
-- syndromes go. For `candidate`.
use Rattle.std.proofs.lemmas.Bool.{cases_eq, cond-true, cond-false, eq-eqb, ne_eqb}
use Rattle.std.proofs.Common.{◌≡◌, ◌≢◌, ℕ, zero, suc, ◌+◌, ◌-◌, ◌≤◌, ◌<◌, eqb, refl, sym, ap, ap₂, ◌∙◌, subst, arith, List}
use Rattle.std.proofs.Common.{[], ◌∷◌, length, get_or, take, reverse, ◌⊎◌, inl, inr}
use Rattle.code_spec.specs.Field.{gf_add, gf_mul, gf_pow}
use Rattle.code_spec.specs.Code.{value_of}
use Rattle.code_laws.specs.Locators.{Spot, power_sum, NotAmong, AreSpots}
use Rattle.code_laws.proofs.Ring.{ring, add_self, zero_add, mul_one, one_mul, zero_mul, mul_zero, pow_below}
use Rattle.code_laws.proofs.Ring.{pow_suc, pow_zero, pow_distinct, equal_from_add, add_below, mul_below}
use Rattle.code_laws.proofs.Powers.{pow_inverse}
use Rattle.code_laws.proofs.Words.{pow_turn}
use Rattle.decoder_laws.specs.Series.{tail, plus, scale, times, none, Below, Agree, Bytes, horner}
use Rattle.decoder_laws.specs.Polynomials.{poly}
use Rattle.decoder_laws.specs.Locators.{locator, evaluator}
use Rattle.decoder_laws.specs.Euclid.{IsSolution}
use Rattle.decoder_laws.specs.Chien.{roots_of}
use Rattle.decoder_laws.specs.Forney.{gap_ratio}
use Rattle.decoder_laws.proofs.Series.{times-plus, times-scale_left, plus-bytes, agree_zero, agree_trans, agree_sym}
use Rattle.decoder_laws.proofs.Series.{agree_of, times_comm, below_weaken}
use Rattle.decoder_laws.proofs.Polynomials.{poly-reverse, poly-below, value_of-reciprocal, reversed_bytes}
use Rattle.decoder_laws.proofs.Horner.{horner-plus, horner-scale, horner-tail}
use Rattle.decoder_laws.proofs.KeyEquation.{key_equation, locator-bytes, locator-below, locator-zero, evaluator-below}
use Rattle.decoder_laws.proofs.KeyEquation.{evaluator-bytes}
use Rattle.decoder_laws.proofs.Locators.{spot_at, others, locator_at, locator_at_own, horner-locator, AllRoots}
use Rattle.decoder_laws.proofs.Locators.{horner-evaluator_spot, root_bound}
use Rattle.decoder_laws.proofs.Forney.{gap_ratio_own, gap_ratio_other}
use Rattle.rs_decode.specs.Fixes.{AreFixes, fix_sum}
use Rattle.rs_decode.specs.declared.Fix.{Fix}

-- ---- the roots that are found, and their spots
-- falling powers below n, at whose reciprocals v is zero
abbrev pub AreRoots : List ℕ → ℕ → List ℕ → Type 0
AreRoots v n [] = Unit {0}
AreRoots v n (p ∷ ps) = (p < n) × (value_of v (gf_pow 2 (255 - p)) ≡ 0) × AreRoots v p ps

are_roots-more : (v : List ℕ) (m n : ℕ) (ps : List ℕ) → m ≤ n → AreRoots v m ps → AreRoots v n ps
are_roots-more v m n [] l h = tt
are_roots-more v m n (p ∷ ps) l h = (let e = h.0 in omega arith, h.1, h.2)

roots_of-are : (v : List ℕ) (n : ℕ) → AreRoots v n (roots_of v n)
roots_of-are v zero = tt
roots_of-are v (suc m) = go (cases_eq (value_of v (gf_pow 2 (255 - m))) 0) (roots_of-are v m)
  where
    x : ℕ
    x = value_of v (gf_pow 2 (255 - m))

    go : (x ≡ 0) ⊎ (x ≢ 0) → AreRoots v m (roots_of v m) → AreRoots v (suc m) (roots_of v (suc m))
    go (inl z) h = subst (AreRoots v (suc m)) (sym (cond-true (eqb x 0) (m ∷ roots_of v m) (roots_of v m)
        (eq-eqb x 0 z))) (omega arith, z, h)
    go (inr n) h = subst (AreRoots v (suc m)) (sym (cond-false (eqb x 0) (m ∷ roots_of v m) (roots_of v m)
        (ne_eqb x 0 n))) (are_roots-more v m (suc m) (roots_of v m) (omega arith) h)

are_roots-take : (v : List ℕ) (n d : ℕ) (ps : List ℕ) → AreRoots v n ps → AreRoots v n (take d ps)
are_roots-take v n zero ps h = tt
are_roots-take v n (suc d) [] h = tt
are_roots-take v n (suc d) (p ∷ ps) h = (h.0, h.1, are_roots-take v p d ps h.2)

pub found_are_roots : (v : List ℕ) (n d : ℕ) (ps : List ℕ) → ps ≡ take d (roots_of v n) → AreRoots v n ps
found_are_roots v n d ps e = subst (AreRoots v n) (sym e) (are_roots-take v n d (roots_of v n) (roots_of-are v n))

-- the powers with the masks of the fixes
unfoldable pub spots_with : List ℕ → List Fix → List Spot
spots_with (p ∷ ps) (f ∷ fs) = record { X = gf_pow 2 p; mask = f.mask } ∷ spots_with ps fs
spots_with ps fs = []

length-spots_with : (n c : ℕ) (r all ps : List ℕ) (fs : List Fix) → AreFixes n c r all ps fs
    → length (spots_with ps fs) ≡ length ps
unfolding spots_with
length-spots_with n c r all [] [] k = refl
length-spots_with n c r all [] (f ∷ fs) k = refl
length-spots_with n c r all (p ∷ ps) [] k = absurd (k tt)
length-spots_with n c r all (p ∷ ps) (f ∷ fs) k = ap suc (length-spots_with n c r all ps fs k.1)

absent : (p : ℕ) (v ps : List ℕ) (fs : List Fix) → p < 255 → AreRoots v p ps → NotAmong (gf_pow 2 p) (spots_with ps fs)
unfolding spots_with
absent p v [] fs b h = tt
absent p v (q ∷ ps) [] b h = tt
absent p v (q ∷ ps) (f ∷ fs) b h = (
  (λ e. pow_distinct q p h.0 b (sym e)),
  absent p v ps fs b (are_roots-more v q p ps (let e = h.0 in omega arith) h.2),
)

spots_with-are : (n m c : ℕ) (v r all ps : List ℕ) (fs : List Fix) → n ≤ 255 → AreRoots v n ps
    → AreFixes m c r all ps fs → AreSpots (spots_with ps fs)
unfolding spots_with
spots_with-are n m c v r all [] fs b h k = tt
spots_with-are n m c v r all (p ∷ ps) [] b h k = tt
spots_with-are n m c v r all (p ∷ ps) (f ∷ fs) b h k = (
  pow_below 2 p,
  k.0.mask_byte,
  absent p v ps fs (let e = h.0 in omega arith) h.2,
  spots_with-are p m c v r all ps fs (let e = h.0 in omega arith) h.2 k.1,
)

-- a spot at the power p
record IsAt (n c p : ℕ) (v r all : List ℕ) (s : Spot) : Type 0 where
  below : p < n
  X_is : s.X ≡ gf_pow 2 p
  root : value_of v (gf_pow 2 (255 - p)) ≡ 0
  mask : gf_mul s.mask (gap_ratio all p) ≡ gf_mul c (value_of r (gf_pow 2 (255 - p)))

spot_is_at : (i n m c : ℕ) (v r all ps : List ℕ) (fs : List Fix) → i < length ps → AreRoots v n ps
    → AreFixes m c r all ps fs → IsAt n c (get_or ps i 0) v r all (spot_at i (spots_with ps fs))
unfolding spot_at spots_with
spot_is_at i n m c v r all [] fs l h k = absurd (omega arith)
spot_is_at i n m c v r all (p ∷ ps) [] l h k = absurd (k tt)
spot_is_at zero n m c v r all (p ∷ ps) (f ∷ fs) l h k = record {
  below = h.0;
  X_is = refl;
  root = h.1;
  mask = k.0.mask;
}
spot_is_at (suc i) n m c v r all (p ∷ ps) (f ∷ fs) l h k =
    spot_is_at i n m c v r all ps fs (omega arith) (are_roots-more v p n ps (let e = h.0 in omega arith) h.2) k.1

-- ---- the denominators of Forney's formula
gap_more : (q p k rest : ℕ) (js : List ℕ) → p < 255 → q ≢ p → gf_mul (gap_ratio js p) (gf_pow (gf_pow 2 p) k) ≡ rest
    → gf_mul (gap_ratio (q ∷ js) p) (gf_pow (gf_pow 2 p) (suc k)) ≡ gf_mul (gf_add (gf_pow 2 p) (gf_pow 2 q)) rest
gap_more q p k rest js b n e =
    ap₂ gf_mul (gap_ratio_other q p js n) (pow_suc X k)
    ∙ alg (gf_pow 2 q) y (gap_ratio js p) X (gf_pow X k)
    ∙ ap₂ gf_mul (ap₂ gf_add (one_mul X (pow_below 2 p))
    (ap (gf_mul (gf_pow 2 q)) (pow_inverse p (omega arith)) ∙ mul_one (gf_pow 2 q) (pow_below 2 q))) e
  where
    X : ℕ
    X = gf_pow 2 p

    y : ℕ
    y = gf_pow 2 (255 - p)

    alg : (a y R x P : ℕ) → gf_mul (gf_mul (gf_add 1 (gf_mul a y)) R) (gf_mul x P)
        ≡ gf_mul (gf_add (gf_mul 1 x) (gf_mul a (gf_mul x y))) (gf_mul R P)
    alg a y R x P = simp ring

-- a power that is none of the list's
gap_absent : (p n c : ℕ) (v r all ps : List ℕ) (fs : List Fix) → p < 255 → AreRoots v p ps → AreFixes n c r all ps fs
    → gf_mul (gap_ratio ps p) (gf_pow (gf_pow 2 p) (length ps)) ≡ locator_at (gf_pow 2 p) (spots_with ps fs)
unfolding spots_with locator_at
gap_absent p n c v r all [] fs b h k = ap (gf_mul 1) (pow_zero (gf_pow 2 p)) ∙ mul_one 1 (omega arith)
gap_absent p n c v r all (q ∷ ps) [] b h k = absurd (k tt)
gap_absent p n c v r all (q ∷ ps) (f ∷ fs) b h k =
    gap_more q p (length ps) (locator_at (gf_pow 2 p) (spots_with ps fs)) ps b
    (λ e. absurd (let l = h.0 in omega arith))
    (gap_absent p n c v r all ps fs b (are_roots-more v q p ps (let l = h.0 in omega arith) h.2) k.1)

-- the power of the spot i
gap_own : (i m n c e : ℕ) (v r all ps : List ℕ) (fs : List Fix) → m ≤ 255 → i < length ps → length ps ≡ suc e
    → AreRoots v m ps → AreFixes n c r all ps fs
    → gf_mul (gap_ratio ps (get_or ps i 0)) (gf_pow (gf_pow 2 (get_or ps i 0)) e)
    ≡ locator_at (gf_pow 2 (get_or ps i 0)) (others i (spots_with ps fs))
unfolding spots_with locator_at others
gap_own i m n c e v r all [] fs b l le h k = absurd (omega arith)
gap_own i m n c e v r all (p ∷ ps) [] b l le h k = absurd (k tt)
gap_own zero m n c e v r all (p ∷ ps) (f ∷ fs) b l le h k =
    ap₂ (λ (x j : ℕ). gf_mul x (gf_pow (gf_pow 2 p) j)) (gap_ratio_own p p ps refl)
    (let g : e ≡ length ps = omega (arith, le) in g)
    ∙ gap_absent p n c v r all ps fs (let g = h.0 in omega arith) h.2 k.1
gap_own (suc i) m n c zero v r all (p ∷ ps) (f ∷ fs) b l le h k = absurd (omega (arith, le))
gap_own (suc i) m n c (suc e) v r all (q ∷ ps) (f ∷ fs) b l le h k =
    let li : i < length ps = omega arith in
    let p : ℕ = get_or ps i 0 in
    let at = spot_is_at i q n c v r all ps fs li h.2 k.1 in
    gap_more q p e (locator_at (gf_pow 2 p) (others i (spots_with ps fs))) ps
    (let g = h.0 in omega (arith, at.below))
    (λ g. absurd (omega (arith, at.below, g)))
    (gap_own i q n c e v r all ps fs (let g = h.0 in omega arith) li (omega (arith, le)) h.2 k.1)

-- ---- the locator and the evaluator of the spots
all_roots : (d : ℕ) (p : ℕ → ℕ) (ss : List Spot) → ((i : ℕ) → i < length ss → horner (spot_at i ss).X p d ≡ 0)
    → AllRoots d p ss
unfolding spot_at
all_roots d p [] h = tt
all_roots d p (s ∷ ss) h = (h 0 (omega arith), all_roots d p ss (λ i l. h (suc i) (omega arith)))

spot_byte : (i : ℕ) (ss : List Spot) → i < length ss → AreSpots ss → (spot_at i ss).X < 256
unfolding spot_at
spot_byte i [] l h = absurd (omega arith)
spot_byte zero (s ∷ ss) l h = h.0
spot_byte (suc i) (s ∷ ss) l h = spot_byte i ss (omega arith) h.3

-- two polynomials with equal sums to zero are equal
equal_series : (p q : ℕ → ℕ) → ((k : ℕ) → plus p q k ≡ 0) → p ≡ q
unfolding plus
equal_series p q h = λ i k. equal_from_add (p k) (q k) (h k) i

plus_below : (n : ℕ) (p q : ℕ → ℕ) → Below n p → Below n q → Below n (plus p q)
unfolding plus
plus_below n p q h k = record { at = λ j l. ap₂ gf_add (h.at j l) (k.at j l) ∙ zero_add 0 }

scale_below : (n c : ℕ) (p : ℕ → ℕ) → Below n p → Below n (scale c p)
unfolding scale
scale_below n c p h = record { at = λ j l. ap (gf_mul c) (h.at j l) ∙ mul_zero c }

scale_bytes : (c : ℕ) (p : ℕ → ℕ) → Bytes (scale c p)
unfolding scale
scale_bytes c p = record { at = λ j. mul_below c (p j) }

-- a polynomial with no constant and as many roots as its degree is zero
zero_from_roots : (d : ℕ) (p : ℕ → ℕ) (ss : List Spot) → AreSpots ss → length ss ≡ d → Bytes p → Below (suc d) p
    → p 0 ≡ 0 → ((i : ℕ) → i < length ss → horner (spot_at i ss).X p d ≡ 0) → (k : ℕ) → p k ≡ 0
zero_from_roots d p ss a l b h z roots zero = z
zero_from_roots zero p ss a l b h z roots (suc k) = h.at (suc k) (omega arith)
zero_from_roots (suc d) p ss a l b h z roots (suc k) =
    root_bound d (tail p) ss (record { at = λ j. b.at (suc j) }) (record { at = λ j lj. h.at (suc j) (omega arith) }) a
    (all_roots d (tail p) ss (λ i li. let X : ℕ = (spot_at i ss).X in
    sym (horner-tail X d p (spot_byte i ss li a)
    ∙ ap (λ (x : ℕ). gf_add (gf_mul x (gf_pow X (suc d))) (horner X (tail p) d)) z
    ∙ ap (λ (x : ℕ). gf_add x (horner X (tail p) d)) (zero_mul (gf_pow X (suc d)))
    ∙ zero_add (horner X (tail p) d)) ∙ roots i li)) (omega arith) k

same_locator : (d c : ℕ) (v : ℕ → ℕ) (ss : List Spot) → AreSpots ss → length ss ≡ d → Bytes v → Below (suc d) v
    → gf_mul c (v 0) ≡ 1 → ((i : ℕ) → i < length ss → horner (spot_at i ss).X v d ≡ 0) → locator ss ≡ scale c v
unfolding plus scale
same_locator d c v ss a l b h one roots =
    equal_series (locator ss) (scale c v) (zero_from_roots d (plus (locator ss) (scale c v)) ss a l
    (plus-bytes (locator ss) (scale c v) (locator-bytes ss) (scale_bytes c v))
    (plus_below (suc d) (locator ss) (scale c v) (subst (λ (n : ℕ). Below (suc n) (locator ss)) l (locator-below ss))
    (scale_below (suc d) c v h)) (ap₂ gf_add (locator-zero ss) one ∙ add_self 1)
    (λ i li. let X : ℕ = (spot_at i ss).X in
    horner-plus X d (locator ss) (scale c v)
    ∙ ap₂ gf_add (ap (horner X (locator ss)) (sym l) ∙ horner-locator X ss ∙ locator_at_own i ss li)
    (horner-scale X c d v ∙ ap (gf_mul c) (roots i li) ∙ mul_zero c) ∙ zero_add 0))

same_evaluator : (c : ℕ) (r : ℕ → ℕ) (ss : List Spot) → AreSpots ss → Below (length ss) r
    → ((e i : ℕ) → length ss ≡ suc e → i < length ss → horner (spot_at i ss).X (evaluator ss) e
    ≡ gf_mul c (horner (spot_at i ss).X r e)) → evaluator ss ≡ scale c r
same_evaluator c r ss a h equal = equal_series (evaluator ss) (scale c r) (zeros (length ss) refl)
  where
    p : ℕ → ℕ
    p = plus (evaluator ss) (scale c r)

    low : Below (length ss) p
    low = plus_below (length ss) (evaluator ss) (scale c r) (evaluator-below ss) (scale_below (length ss) c r h)

    zeros : (d : ℕ) → length ss ≡ d → (k : ℕ) → p k ≡ 0
    zeros zero l k = low.at k (omega (arith, l))
    zeros (suc e) l k =
        root_bound e p ss (plus-bytes (evaluator ss) (scale c r) (evaluator-bytes ss) (scale_bytes c r))
        (subst (λ (n : ℕ). Below n p) l low) a
        (all_roots e p ss (λ i li. let X : ℕ = (spot_at i ss).X in
        horner-plus X e (evaluator ss) (scale c r)
        ∙ ap₂ gf_add (equal e i l li) (horner-scale X c e r)
        ∙ add_self (gf_mul c (horner X r e)))) (omega (arith, l)) k

-- ---- the power sums
low_first : (L q : ℕ → ℕ) → L 0 ≡ 1 → Bytes q → times q L 0 ≡ 0 → q 0 ≡ 0
unfolding times
low_first L q one b e = sym (mul_one (q 0) (b.at 0)) ∙ ap (gf_mul (q 0)) (sym one) ∙ e

low_tail : (k : ℕ) (L q : ℕ → ℕ) → q 0 ≡ 0 → times q L (suc k) ≡ times (tail q) L k
unfolding times
low_tail k L q z = ap (λ (x : ℕ). gf_add (gf_mul x (L (suc k))) (times (tail q) L k)) z
    ∙ ap (λ (x : ℕ). gf_add x (times (tail q) L k)) (zero_mul (L (suc k))) ∙ zero_add (times (tail q) L k)

-- a factor with the constant 1 makes no low coefficient zero that is not
low_zero : (n k : ℕ) (L q : ℕ → ℕ) → L 0 ≡ 1 → Bytes q → ((j : ℕ) → j < n → times q L j ≡ 0) → k < n → q k ≡ 0
low_zero zero k L q one b h l = absurd (omega arith)
low_zero (suc n) zero L q one b h l = low_first L q one b (h 0 (omega arith))
low_zero (suc n) (suc k) L q one b h l =
    let z : q 0 ≡ 0 = low_first L q one b (h 0 (omega arith)) in
    low_zero n k L (tail q) one (record { at = λ j. b.at (suc j) })
    (λ j lj. sym (low_tail j L q z) ∙ h (suc j) (omega arith)) (omega arith)

power_sum-bytes : (ss : List Spot) → Bytes (power_sum ss)
power_sum-bytes [] = record { at = λ k. omega arith }
power_sum-bytes (s ∷ ss) = record {
  at = λ k. add_below (gf_mul s.mask (gf_pow s.X k)) (power_sum ss k)
      (mul_below s.mask (gf_pow s.X k)) ((power_sum-bytes ss).at k);
}

scale_agree : (n c : ℕ) (p q : ℕ → ℕ) → Agree n p q → Agree n (scale c p) (scale c q)
unfolding scale
scale_agree n c p q h = record { at = λ k l. ap (gf_mul c) (h.at k l) }

sum_at : (n : ℕ) (p q : ℕ → ℕ) → Agree n (plus p q) none → (k : ℕ) → k < n → plus p q k ≡ 0
unfolding none
sum_at n p q h k l = h.at k l

equal_at : (k : ℕ) (p q : ℕ → ℕ) → plus p q k ≡ 0 → p k ≡ q k
unfolding plus
equal_at k p q e = equal_from_add (p k) (q k) e

-- spots whose locator and evaluator solve the key equation have the syndromes as their power sums
sums_from_key : (n c : ℕ) (S v r : ℕ → ℕ) (ss : List Spot) → AreSpots ss → Bytes S → Agree n (times v S) r
    → locator ss ≡ scale c v → evaluator ss ≡ scale c r → (k : ℕ) → k < n → power_sum ss k ≡ S k
sums_from_key n c S v r ss a b h el er k l =
    let L : ℕ → ℕ = locator ss in
    let P : ℕ → ℕ = power_sum ss in
    let scaled : Agree n (times L S) (scale c r) =
    agree_trans n (times L S) (scale c (times v S)) (scale c r)
    (agree_of n (times L S) (scale c (times v S)) (ap (λ (f : ℕ → ℕ). times f S) el ∙ times-scale_left c v S))
    (scale_agree n c (times v S) r h) in
    let across : Agree n (times L P) (times L S) =
    agree_trans n (times L P) (scale c r) (times L S)
    (agree_of n (times L P) (scale c r) (key_equation ss a ∙ er))
    (agree_sym n (times L S) (scale c r) scaled) in
    equal_at k P S (low_zero n k L (plus P S) (locator-zero ss) (plus-bytes P S (power_sum-bytes ss) b)
    (λ j lj. ap (λ (f : ℕ → ℕ). f j) (times_comm (plus P S) L ∙ times-plus L P S)
    ∙ sum_at n (times L P) (times L S) (agree_zero n (times L P) (times L S) across) j lj) l)

fix_sum_is : (k n c : ℕ) (r all ps : List ℕ) (fs : List Fix) → AreFixes n c r all ps fs
    → fix_sum n fs (gf_pow 2 k) ≡ power_sum (spots_with ps fs) k
unfolding spots_with
fix_sum_is k n c r all [] [] h = refl
fix_sum_is k n c r all [] (f ∷ fs) h = absurd (h tt)
fix_sum_is k n c r all (p ∷ ps) [] h = absurd (h tt)
fix_sum_is k n c r all (p ∷ ps) (f ∷ fs) h =
    ap₂ (λ (x y : ℕ). gf_add (gf_mul f.mask x) y)
    (ap (gf_pow (gf_pow 2 k)) (let e : n - 1 - f.place ≡ p = omega (arith, h.0.place) in e) ∙ pow_turn 2 k p)
    (fix_sum_is k n c r all ps fs h.1)

-- ---- the values of the fixes
spot_root : (n c d p : ℕ) (v r all : List ℕ) (s : Spot) → n ≤ 255 → Bytes (poly v) → length v ≤ suc d
    → IsAt n c p v r all s → horner s.X (poly v) d ≡ 0
spot_root n c d p v r all s b bv l h =
    ap (λ (x : ℕ). horner x (poly v) d) h.X_is
    ∙ sym (value_of-reciprocal (gf_pow 2 p) (gf_pow 2 (255 - p)) (pow_below 2 p) (pow_below 2 (255 - p))
    (pow_inverse p (omega (arith, h.below))) v bv d l)
    ∙ ap (λ (x : ℕ). gf_mul x (gf_pow (gf_pow 2 p) d)) h.root ∙ zero_mul (gf_pow (gf_pow 2 p) d)

spot_value : (n c e p own : ℕ) (v r all : List ℕ) (s : Spot) → n ≤ 255 → Bytes (poly r) → length r ≤ suc e
    → IsAt n c p v r all s → gf_mul (gap_ratio all p) (gf_pow (gf_pow 2 p) e) ≡ own
    → gf_mul s.mask own ≡ gf_mul c (horner (gf_pow 2 p) (poly r) e)
spot_value n c e p own v r all s b br l h g =
    ap (gf_mul s.mask) (sym g) ∙ alg s.mask (gap_ratio all p) P
    ∙ ap (λ (x : ℕ). gf_mul x P) h.mask ∙ alg' c (value_of r (gf_pow 2 (255 - p))) P
    ∙ ap (gf_mul c) (value_of-reciprocal (gf_pow 2 p) (gf_pow 2 (255 - p)) (pow_below 2 p) (pow_below 2 (255 - p))
    (pow_inverse p (omega (arith, h.below))) r br e l)
  where
    P : ℕ
    P = gf_pow (gf_pow 2 p) e

    alg : (m g p : ℕ) → gf_mul m (gf_mul g p) ≡ gf_mul (gf_mul m g) p
    alg m g p = simp ring

    alg' : (c v p : ℕ) → gf_mul (gf_mul c v) p ≡ gf_mul c (gf_mul v p)
    alg' c v p = simp ring

-- the fixes at as many roots as the locator's degree, by a shorter evaluator, have the syndromes as their values
pub sums_are_syndromes : (t n c : ℕ) (s v r ps : List ℕ) (fs : List Fix) → n ≤ 255 → length s ≡ t + t
    → ((k : ℕ) → get_or s k 0 < 256) → IsSolution t (poly (reverse s)) v r → gf_mul c (poly v 0) ≡ 1
    → length r < length v → length ps + 1 ≡ length v → AreRoots v n ps → AreFixes n c r ps ps fs
    → (k : ℕ) → k < t + t → fix_sum n fs (gf_pow 2 k) ≡ get_or s k 0
sums_are_syndromes t n c s v r ps fs b ls bs h one short count are k j lj =
    let ss : List Spot = spots_with ps fs in
    let d : ℕ = length ps in
    let spots : AreSpots ss = spots_with-are n n c v r ps ps fs b are k in
    let ld : length ss ≡ d = length-spots_with n c r ps ps fs k in
    let place : (i : ℕ) → i < length ss → IsAt n c (get_or ps i 0) v r ps (spot_at i ss) =
    λ i li. spot_is_at i n n c v r ps ps fs (omega arith) are k in
    let locator_is : locator ss ≡ scale c (poly v) =
    same_locator d c (poly v) ss spots ld h.stop.bytes
    (below_weaken (length v) (suc d) (poly v) (omega (arith, count)) (poly-below v)) one
    (λ i li. spot_root n c d (get_or ps i 0) v r ps (spot_at i ss) b h.stop.bytes (omega (arith, count)) (place i li))
    in
    let evaluator_is : evaluator ss ≡ scale c (poly r) =
    same_evaluator c (poly r) ss spots
    (below_weaken (length r) (length ss) (poly r) (omega (arith, count, short)) (poly-below r))
    (λ e i le li. let p : ℕ = get_or ps i 0 in
    horner-evaluator_spot i e ss le li
    ∙ ap (λ (x : ℕ). gf_mul (spot_at i ss).mask (locator_at x (others i ss))) (place i li).X_is
    ∙ spot_value n c e p (locator_at (gf_pow 2 p) (others i ss)) v r ps (spot_at i ss) b h.stop.r_bytes
    (omega (arith, count, short, le)) (place i li)
    (gap_own i n n c e v r ps ps fs b (omega arith) (omega (arith, le)) are k)
    ∙ ap (λ (x : ℕ). gf_mul c (horner x (poly r) e)) (sym (place i li).X_is)) in
    fix_sum_is j n c r ps ps fs k
    ∙ sums_from_key (t + t) c (poly (reverse s)) (poly v) (poly r) ss spots (reversed_bytes s bs) h.euclid.solves
    locator_is evaluator_is j lj
    ∙ poly-reverse s j (omega arith)
