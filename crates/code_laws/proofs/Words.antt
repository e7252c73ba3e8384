-- Words of the code: sums, values and places of symbols
use Rattle.std.proofs.Common.{◌≡◌, ◌≢◌, ℕ, zero, suc, ◌+◌, ◌*◌, ◌≤◌, ◌<◌, eqb, true, false, cond, refl, sym, ap, ap₂}
use Rattle.std.proofs.Common.{◌∙◌, arith, List, [], ◌∷◌, ◌++◌, length, length-append, ◌⊎◌, inl, inr, mul-suc, mul-zero}
use Rattle.std.proofs.Common.{mul_comm as nat_mul_comm, get_or, take, drop, take-append-drop, ext_get_or}
use Rattle.std.proofs.Common.{length-take-le, get_or-take, get_or-drop, length-drop}
use Rattle.std.proofs.lemmas.Bool.Decides.{eqb_tells}
use Rattle.code_spec.specs.Field.{gf_add, gf_mul, gf_pow}
use Rattle.code_laws.proofs.Ring.{ring, add_assoc, add_self, zero_add, add_zero, zero_mul, mul_zero, mul_one, add_below}
use Rattle.code_laws.proofs.Ring.{equal_from_add, pow_suc, pow_zero, pow_below, pow_add, pow_distinct}
use Rattle.code_laws.specs.Locators.{Spot, power_sum, NotAmong, AreSpots, NoMask}
use Rattle.code_spec.specs.Code.{value_of, distance}
use Rattle.code_laws.proofs.Symbols.{HasRoots, IsAdded, Symbols}
use Rattle.code_laws.proofs.Distance.{distance as spots_distance}

pub value_of-nil : (x : ℕ) → value_of [] x ≡ 0
unfolding value_of
value_of-nil x = refl

pub value_of-cons : (c : ℕ) (w : List ℕ) (x : ℕ) → value_of (c ∷ w) x ≡ gf_add (gf_mul c (gf_pow x (length w)))
    (value_of w x)
unfolding value_of
value_of-cons c w x = refl

pub value_of-append : (u w : List ℕ) (x : ℕ) → value_of (u ++ w) x
    ≡ gf_add (gf_mul (value_of u x) (gf_pow x (length w))) (value_of w x)
unfolding value_of
value_of-append [] w x = sym (ap (λ (y : ℕ). gf_add y (value_of w x)) (zero_mul (gf_pow x (length w)))
    ∙ zero_add (value_of w x))
value_of-append (c ∷ u) w x =
    ap₂ (λ (y z : ℕ). gf_add (gf_mul c y) z) (ap (gf_pow x) (length-append u w) ∙ pow_add x (length u) (length w))
    (value_of-append u w x)
    ∙ alg c (gf_pow x (length u)) (gf_pow x (length w)) (value_of u x) (value_of w x)
  where
    alg : (c p q a b : ℕ) → gf_add (gf_mul c (gf_mul p q)) (gf_add (gf_mul a q) b)
        ≡ gf_add (gf_mul (gf_add (gf_mul c p) a) q) b
    alg c p q a b = simp ring

pub value_of-push : (w : List ℕ) (c x : ℕ) → c < 256 → x < 256
    → value_of (w ++ c ∷ []) x ≡ gf_add (gf_mul (value_of w x) x) c
unfolding value_of
value_of-push w c x bc bx =
    value_of-append w (c ∷ []) x
    ∙ ap₂ (λ (y z : ℕ). gf_add (gf_mul (value_of w x) y) (gf_add z 0))
    (pow_suc x 0 ∙ ap (gf_mul x) (pow_zero x) ∙ mul_one x bx) (ap (gf_mul c) (pow_zero x) ∙ mul_one c bc)
    ∙ ap (gf_add (gf_mul (value_of w x) x)) (add_zero c)

pub pow_pow : (x a b : ℕ) → gf_pow (gf_pow x a) b ≡ gf_pow x (a * b)
pow_pow x a zero = pow_zero (gf_pow x a) ∙ sym (pow_zero x) ∙ ap (gf_pow x) (sym (mul-zero a))
pow_pow x a (suc b) =
    pow_suc (gf_pow x a) b ∙ ap (gf_mul (gf_pow x a)) (pow_pow x a b) ∙ sym (pow_add x a (a * b))
    ∙ ap (gf_pow x) (omega (arith, mul-suc a b))

pub pow_turn : (x a b : ℕ) → gf_pow (gf_pow x a) b ≡ gf_pow (gf_pow x b) a
pow_turn x a b = pow_pow x a b ∙ ap (gf_pow x) (nat_mul_comm a b) ∙ sym (pow_pow x b a)

-- ---- the places of a word that are not zero
unfoldable pub spots_of : List ℕ → List Spot
spots_of [] = []
spots_of (c ∷ w) = cond (eqb c 0) (spots_of w) (record { X = gf_pow 2 (length w); mask = c } ∷ spots_of w)

pub value_of_spots : (w : List ℕ) (k : ℕ) → value_of w (gf_pow 2 k) ≡ power_sum (spots_of w) k
unfolding value_of spots_of
value_of_spots [] k = refl
value_of_spots (c ∷ w) k = ap₂ (λ (y z : ℕ). gf_add (gf_mul c y) z) (pow_turn 2 k (length w)) (value_of_spots w k)
    ∙ go (eqb_tells c 0)
  where
    go : ((eqb c 0 ≡ true) × (c ≡ 0)) ⊎ ((eqb c 0 ≡ false) × (c ≢ 0))
        → gf_add (gf_mul c (gf_pow (gf_pow 2 (length w)) k)) (power_sum (spots_of w) k)
        ≡ power_sum (cond (eqb c 0) (spots_of w) (record { X = gf_pow 2 (length w); mask = c } ∷ spots_of w)) k
    go (inl h) = rw h.0 (ap (λ (y : ℕ). gf_add (gf_mul y (gf_pow (gf_pow 2 (length w)) k)) (power_sum (spots_of w) k))
        h.1 ∙ ap (λ (y : ℕ). gf_add y (power_sum (spots_of w) k)) (zero_mul (gf_pow (gf_pow 2 (length w)) k))
        ∙ zero_add (power_sum (spots_of w) k))
    go (inr h) = rw h.0

pub not_among_spots : (n : ℕ) (w : List ℕ) → length w ≤ n → n < 255 → NotAmong (gf_pow 2 n) (spots_of w)
unfolding spots_of
not_among_spots n [] l b = tt
not_among_spots n (c ∷ w) l b = elim (eqb c 0) as (λ v. NotAmong (gf_pow 2 n)
    (cond v (spots_of w) (record { X = gf_pow 2 (length w); mask = c } ∷ spots_of w))) [
      | true ↦ not_among_spots n w (omega arith) b
      | false ↦ ((λ e. pow_distinct (length w) n (omega arith) b (sym e)), not_among_spots n w (omega arith) b)
    ]

pub spots_of-are : (w : List ℕ) → length w ≤ 255 → Symbols w → AreSpots (spots_of w)
unfolding spots_of
spots_of-are [] l b = tt
spots_of-are (c ∷ w) l b = elim (eqb c 0) as (λ v. AreSpots
    (cond v (spots_of w) (record { X = gf_pow 2 (length w); mask = c } ∷ spots_of w))) [
      | true ↦ spots_of-are w (omega arith) b.1
      | false ↦ (
        pow_below 2 (length w),
        b.0,
        not_among_spots (length w) w (omega arith) (omega arith),
        spots_of-are w (omega arith) b.1,
      )
    ]

-- ---- sums of words
unfoldable pub word_sum : List ℕ → List ℕ → List ℕ
word_sum (a ∷ u) (b ∷ w) = gf_add a b ∷ word_sum u w
word_sum u w = []

pub length-word_sum : (u w : List ℕ) → length u ≡ length w → length (word_sum u w) ≡ length u
unfolding word_sum
length-word_sum [] [] e = refl
length-word_sum [] (b ∷ w) e = refl
length-word_sum (a ∷ u) [] e = absurd (cc)
length-word_sum (a ∷ u) (b ∷ w) e = ap suc (length-word_sum u w (cc))

pub value_of-word_sum : (u w : List ℕ) (x : ℕ) → length u ≡ length w
    → value_of (word_sum u w) x ≡ gf_add (value_of u x) (value_of w x)
unfolding word_sum value_of
value_of-word_sum [] [] x e = sym (zero_add 0)
value_of-word_sum [] (b ∷ w) x e = absurd (cc)
value_of-word_sum (a ∷ u) [] x e = absurd (cc)
value_of-word_sum (a ∷ u) (b ∷ w) x e =
    let e' : length u ≡ length w = cc in
    ap₂ (λ (y z : ℕ). gf_add (gf_mul (gf_add a b) y) z) (ap (gf_pow x) (length-word_sum u w e'))
    (value_of-word_sum u w x e')
    ∙ alg a b (gf_pow x (length u)) (value_of u x) (value_of w x)
    ∙ ap (λ (y : ℕ). gf_add (gf_add (gf_mul a (gf_pow x (length u))) (value_of u x))
    (gf_add (gf_mul b (gf_pow x y)) (value_of w x))) e'
  where
    alg : (a b p y z : ℕ) → gf_add (gf_mul (gf_add a b) p) (gf_add y z)
        ≡ gf_add (gf_add (gf_mul a p) y) (gf_add (gf_mul b p) z)
    alg a b p y z = simp ring

pub symbols-word_sum : (u w : List ℕ) → Symbols u → Symbols w → Symbols (word_sum u w)
unfolding word_sum
symbols-word_sum [] w h k = tt
symbols-word_sum (a ∷ u) [] h k = tt
symbols-word_sum (a ∷ u) (b ∷ w) h k = (add_below a b h.0 k.0, symbols-word_sum u w h.1 k.1)

-- as many spots as places that differ
pub spots_distance_is : (u w : List ℕ) → length u ≡ length w → length (spots_of (word_sum u w)) ≡ distance u w
unfolding word_sum spots_of distance
spots_distance_is [] w e = refl
spots_distance_is (a ∷ u) [] e = refl
spots_distance_is (a ∷ u) (b ∷ w) e = go (eqb_tells a b) (eqb_tells (gf_add a b) 0) (spots_distance_is u w (cc))
  where
    go : ((eqb a b ≡ true) × (a ≡ b)) ⊎ ((eqb a b ≡ false) × (a ≢ b))
        → ((eqb (gf_add a b) 0 ≡ true) × (gf_add a b ≡ 0)) ⊎ ((eqb (gf_add a b) 0 ≡ false) × (gf_add a b ≢ 0))
        → length (spots_of (word_sum u w)) ≡ distance u w
        → length (cond (eqb (gf_add a b) 0) (spots_of (word_sum u w))
        (record { X = gf_pow 2 (length (word_sum u w)); mask = gf_add a b } ∷ spots_of (word_sum u w)))
        ≡ cond (eqb a b) 0 1 + distance u w
    go (inl h) (inl k) r = rw (h.0, k.0) (r ∙ omega arith)
    go (inl h) (inr k) r = absurd (k.1 (ap (gf_add a) (sym h.1) ∙ add_self a))
    go (inr h) (inl k) r = absurd (h.1 (equal_from_add a b k.1))
    go (inr h) (inr k) r = rw (h.0, k.0) (ap suc r ∙ omega arith)

-- no mask: no differing place
same_words : (u w : List ℕ) → length u ≡ length w → NoMask (spots_of (word_sum u w)) → u ≡ w
unfolding word_sum spots_of
same_words [] [] e n = refl
same_words [] (b ∷ w) e n = absurd (cc)
same_words (a ∷ u) [] e n = absurd (cc)
same_words (a ∷ u) (b ∷ w) e n = go (eqb_tells (gf_add a b) 0) n (same_words u w (cc))
  where
    go : ((eqb (gf_add a b) 0 ≡ true) × (gf_add a b ≡ 0)) ⊎ ((eqb (gf_add a b) 0 ≡ false) × (gf_add a b ≢ 0))
        → NoMask (cond (eqb (gf_add a b) 0) (spots_of (word_sum u w))
        (record { X = gf_pow 2 (length (word_sum u w)); mask = gf_add a b } ∷ spots_of (word_sum u w)))
        → (NoMask (spots_of (word_sum u w)) → u ≡ w) → (a ∷ u) ≡ (b ∷ w)
    go (inl h) n r = ap₂ ◌∷◌ (equal_from_add a b h.1) (r (rw h.0 at n))
    go (inr h) n r = absurd (h.1 (rw h.0 at n).0)

pub law_of_distance : (r : ℕ) (u w : List ℕ) → length u ≡ length w → length u ≤ 255 → Symbols u → Symbols w
    → HasRoots r u → HasRoots r w → distance u w ≤ r → u ≡ w
law_of_distance r u w e l bu bw cu cw d =
    same_words u w e
    (spots_distance r (spots_of (word_sum u w)) (rw (spots_distance_is u w e) d)
    (spots_of-are (word_sum u w) (rw (length-word_sum u w e) l) (symbols-word_sum u w bu bw))
    (λ k h. sym (value_of_spots (word_sum u w) k) ∙ value_of-word_sum u w (gf_pow 2 k) e
    ∙ ap₂ gf_add (cu.at k h) (cw.at k h) ∙ zero_add 0))

-- ---- one word plus a multiple of another
pub value_of-added : (f x : ℕ) (n m b : List ℕ) → IsAdded f n m b
    → value_of n x ≡ gf_add (value_of m x) (gf_mul f (value_of b x))
unfolding value_of
value_of-added f x [] [] [] h = sym (zero_add (gf_mul f 0) ∙ mul_zero f)
value_of-added f x [] [] (z ∷ b) h = absurd (let l = h.length_b in cc)
value_of-added f x [] (y ∷ m) b h = absurd (let l = h.length_m in cc)
value_of-added f x (c ∷ n) [] b h = absurd (let l = h.length_m in cc)
value_of-added f x (c ∷ n) (y ∷ m) [] h = absurd (let l = h.length_b in cc)
value_of-added f x (c ∷ n) (y ∷ m) (z ∷ b) h =
    let lm : length n ≡ length m = omega (arith, h.length_m) in
    let lb : length n ≡ length b = omega (arith, h.length_b) in
    ap₂ (λ (u v : ℕ). gf_add (gf_mul u (gf_pow x (length n))) v) (h.at 0 (omega arith))
    (value_of-added f x n m b (record { length_m = lm; length_b = lb; at = λ k l. h.at (suc k) (omega arith) }))
    ∙ alg y f z (gf_pow x (length n)) (value_of m x) (value_of b x)
    ∙ ap₂ (λ (u v : ℕ). gf_add (gf_add (gf_mul y (gf_pow x u)) (value_of m x))
    (gf_mul f (gf_add (gf_mul z (gf_pow x v)) (value_of b x)))) lm lb
  where
    alg : (y f z p v w : ℕ) → gf_add (gf_mul (gf_add y (gf_mul f z)) p) (gf_add v (gf_mul f w))
        ≡ gf_add (gf_add (gf_mul y p) v) (gf_mul f (gf_add (gf_mul z p) w))
    alg y f z p v w = simp ring

pub value_of-added_at : (s f x : ℕ) (n m b : List ℕ) → length n ≡ length m → s + length b ≡ length m
    → ((k : ℕ) → k < s → get_or n k 0 ≡ get_or m k 0)
    → ((k : ℕ) → k < length b → get_or n (s + k) 0 ≡ gf_add (get_or m (s + k) 0) (gf_mul f (get_or b k 0)))
    → value_of n x ≡ gf_add (value_of m x) (gf_mul f (value_of b x))
value_of-added_at s f x n m b e l front rest =
    let ln : length (take s n) ≡ s = length-take-le s n (omega arith) in
    let lm : length (take s m) ≡ s = length-take-le s m (omega arith) in
    let same : take s n ≡ take s m = ext_get_or 0 (take s n) (take s m) (ln ∙ sym lm)
    (λ k h. let h' : k < s = omega (arith, ln) in get_or-take s n k 0 h' ∙ front k h' ∙ sym (get_or-take s m k 0 h')) in
    let tail : value_of (drop s n) x ≡ gf_add (value_of (drop s m) x) (gf_mul f (value_of b x)) =
    value_of-added f x (drop s n) (drop s m) b (record {
      length_m = omega (arith, length-drop s n, length-drop s m);
      length_b = omega (arith, length-drop s n);
      at = λ k h. get_or-drop s n k 0 ∙ rest k (omega (arith, length-drop s n))
          ∙ ap (λ (y : ℕ). gf_add y (gf_mul f (get_or b k 0))) (sym (get_or-drop s m k 0));
    }) in
    ap (λ (u : List ℕ). value_of u x) (sym (take-append-drop s n)) ∙ value_of-append (take s n) (drop s n) x
    ∙ ap₂ (λ (u : List ℕ) (y : ℕ). gf_add (gf_mul (value_of u x) (gf_pow x (length (drop s n)))) y) same tail
    ∙ ap (λ (y : ℕ). gf_add (gf_mul (value_of (take s m) x) (gf_pow x y))
    (gf_add (value_of (drop s m) x) (gf_mul f (value_of b x)))) (omega (arith, length-drop s n, length-drop s m))
    ∙ sym (add_assoc (gf_mul (value_of (take s m) x) (gf_pow x (length (drop s m)))) (value_of (drop s m) x)
    (gf_mul f (value_of b x)))
    ∙ ap (λ (y : ℕ). gf_add y (gf_mul f (value_of b x)))
    (sym (value_of-append (take s m) (drop s m) x) ∙ ap (λ (u : List ℕ). value_of u x) (take-append-drop s m))
