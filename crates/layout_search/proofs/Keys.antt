-- The order of keys
use Rattle.std.proofs.Common.{◌≡◌, ◌≢◌, ℕ, suc, ◌+◌, ◌<◌, ◌≤◌, Bool, true, false, ◌&&◌, ◌||◌, ◌==◌, nat_lt, List, [], ◌∷◌}
use Rattle.std.proofs.Common.{length, drop, get_or, refl, sym, ap, ◌∙◌, arith, add-one, drop-cons, ◌⊎◌, inl, inr}
use Rattle.std.proofs.Common.{true≢false, eqb-true}
use Rattle.std.proofs.lemmas.Bool.{ltb-true, ltb-false, lt-ltb, and_parts, false_from_ne_true}
use Rattle.std.proofs.lemmas.Bool.Decides.{nat_tests}
use Rattle.layout_spec.specs.Order.{is_before}

pub same_before : (x y : ℕ) (xs ys : List ℕ) → x ≡ y → is_before (x ∷ xs) (y ∷ ys) ≡ is_before xs ys
unfolding is_before
same_before x y xs ys e =
    let lt : nat_lt x y ≡ false = grind (arith, nat_tests) in
    let eq : (x == y) ≡ true = grind (arith, nat_tests) in
    ap (λ b. b || ((x == y) && is_before xs ys)) lt ∙ ap (λ b. b && is_before xs ys) eq

pub first_before : (x y : ℕ) (xs ys : List ℕ) → x ≢ y → is_before (x ∷ xs) (y ∷ ys) ≡ nat_lt x y
unfolding is_before
first_before x y xs ys ne =
    let eq : (x == y) ≡ false = grind (arith, nat_tests) in
    ap (λ b. nat_lt x y || (b && is_before xs ys)) eq ∙ or_false (nat_lt x y)
  where
    or_false : (b : Bool) → (b || false) ≡ b
    or_false true = refl
    or_false false = refl

pub front_same : (a b : List ℕ) (i : ℕ) → i < length a → i < length b → get_or a i 0 ≡ get_or b i 0
    → is_before (drop i a) (drop i b) ≡ is_before (drop (i + 1) a) (drop (i + 1) b)
front_same a b i la lb e =
    ap (λ xs. is_before xs (drop i b)) (drop-cons a i 0 la)
    ∙ ap (λ ys. is_before (get_or a i 0 ∷ drop (suc i) a) ys) (drop-cons b i 0 lb)
    ∙ same_before (get_or a i 0) (get_or b i 0) (drop (suc i) a) (drop (suc i) b) e
    ∙ ap (λ n. is_before (drop n a) (drop n b)) (sym (add-one i))

pub front_differs : (a b : List ℕ) (i : ℕ) → i < length a → i < length b → get_or a i 0 ≢ get_or b i 0
    → is_before (drop i a) (drop i b) ≡ nat_lt (get_or a i 0) (get_or b i 0)
front_differs a b i la lb ne =
    ap (λ xs. is_before xs (drop i b)) (drop-cons a i 0 la)
    ∙ ap (λ ys. is_before (get_or a i 0 ∷ drop (suc i) a) ys) (drop-cons b i 0 lb)
    ∙ first_before (get_or a i 0) (get_or b i 0) (drop (suc i) a) (drop (suc i) b) ne

-- nothing is before an empty key
pub none_before : (xs : List ℕ) → is_before xs [] ≡ false
unfolding is_before
none_before xs = refl

-- ---- the order

split : (x y : ℕ) (xs ys : List ℕ) → is_before (x ∷ xs) (y ∷ ys) ≡ true
    → (x < y) ⊎ ((x ≡ y) × (is_before xs ys ≡ true))
unfolding is_before
split x y xs ys h = step (nat_lt x y) refl h
  where
    step : (b : Bool) → nat_lt x y ≡ b → (b || ((x == y) && is_before xs ys)) ≡ true
        → (x < y) ⊎ ((x ≡ y) × (is_before xs ys ≡ true))
    step true e k = inl (ltb-true x y e)
    step false e k = let parts = and_parts (x == y) (is_before xs ys) k in inr (eqb-true x y parts.0, parts.1)

pub less_before : (x y : ℕ) (xs ys : List ℕ) → x < y → is_before (x ∷ xs) (y ∷ ys) ≡ true
unfolding is_before
less_before x y xs ys h = ap (λ b. b || ((x == y) && is_before xs ys)) (lt-ltb x y h)

before_trans : (xs ys zs : List ℕ) → is_before xs ys ≡ true → is_before ys zs ≡ true → is_before xs zs ≡ true
unfolding is_before
before_trans xs ys [] h k = absurd (true≢false (sym k))
before_trans xs [] (z ∷ zs) h k = absurd (true≢false (sym h))
before_trans [] (y ∷ ys) (z ∷ zs) h k = refl
before_trans (x ∷ xs) (y ∷ ys) (z ∷ zs) h k =
    step (split x y xs ys h) (split y z ys zs k) (before_trans xs ys zs)
  where
    step : (x < y) ⊎ ((x ≡ y) × (is_before xs ys ≡ true)) → (y < z) ⊎ ((y ≡ z) × (is_before ys zs ≡ true))
        → (is_before xs ys ≡ true → is_before ys zs ≡ true → is_before xs zs ≡ true)
        → is_before (x ∷ xs) (z ∷ zs) ≡ true
    step (inl p) (inl q) rest = less_before x z xs zs (omega arith)
    step (inl p) (inr q) rest = less_before x z xs zs (omega (arith, p, q.0))
    step (inr p) (inl q) rest = less_before x z xs zs (omega (arith, p.0, q))
    step (inr p) (inr q) rest = same_before x z xs zs (p.0 ∙ q.0) ∙ rest p.1 q.1

pub not_before_self : (xs : List ℕ) → is_before xs xs ≡ false
not_before_self [] = none_before []
not_before_self (x ∷ xs) = same_before x x xs xs refl ∙ not_before_self xs

-- what is not before the one behind is not before the one in front
pub not_before : (k c b : List ℕ) → is_before c b ≡ true → is_before k b ≡ false → is_before k c ≡ false
not_before k c b h n = false_from_ne_true (is_before k c) (λ e. true≢false (sym (before_trans k c b e h) ∙ n))

-- a key with a lesser number in front is before
pub front_decides : (x y : ℕ) (xs ys : List ℕ) → y < x → is_before (x ∷ xs) (y ∷ ys) ≡ false
front_decides x y xs ys h = first_before x y xs ys (λ e. absurd (omega (arith, e, h)))
    ∙ false_from_ne_true (nat_lt x y) (λ e. absurd (omega (arith, ltb-true x y e, h)))

-- with the one behind not in front of the other, what is before the other is before the one behind
pub before_not_before : (k a b : List ℕ) → is_before k b ≡ true → is_before a b ≡ false → is_before k a ≡ true
unfolding is_before
before_not_before k a [] h n = absurd (true≢false (sym h))
before_not_before k [] (y ∷ ys) h n = absurd (true≢false n)
before_not_before [] (z ∷ zs) (y ∷ ys) h n = refl
before_not_before (x ∷ xs) (z ∷ zs) (y ∷ ys) h n =
    step (split x y xs ys h) (at_least (nat_lt z y) refl)
    (λ e r. before_not_before xs zs ys r (sym (same_before z y zs ys e) ∙ n))
  where
    at_least : (b : Bool) → nat_lt z y ≡ b → y ≤ z
    at_least true e = absurd (true≢false (sym (less_before z y zs ys (ltb-true z y e)) ∙ n))
    at_least false e = ltb-false z y e

    same : (b : Bool) → nat_lt x z ≡ b → x ≡ y → y ≤ z → (z ≡ y → is_before xs zs ≡ true)
        → is_before (x ∷ xs) (z ∷ zs) ≡ true
    same true e p le rest = less_before x z xs zs (ltb-true x z e)
    same false e p le rest =
        let most : z ≤ x = ltb-false x z e in
        same_before x z xs zs (omega (arith, p, le, most)) ∙ rest (omega (arith, p, le, most))

    step : (x < y) ⊎ ((x ≡ y) × (is_before xs ys ≡ true)) → y ≤ z
        → (z ≡ y → is_before xs ys ≡ true → is_before xs zs ≡ true) → is_before (x ∷ xs) (z ∷ zs) ≡ true
    step (inl p) le rest = less_before x z xs zs (omega (arith, p, le))
    step (inr p) le rest = same (nat_lt x z) refl p.0 le (λ e. rest e p.1)

-- so what is not before the one is not before the other
pub not_before_other : (k a b : List ℕ) → is_before a b ≡ false → is_before k a ≡ false → is_before k b ≡ false
not_before_other k a b n h =
    false_from_ne_true (is_before k b) (λ e. true≢false (sym (before_not_before k a b e n) ∙ h))
