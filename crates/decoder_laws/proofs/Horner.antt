-- The factor 1 + X x and its inverse, whose coefficients are the values at X (Horner's rule). For the key equation, and
-- for the roots of a polynomial.
use Rattle.std.proofs.Common.{◌≡◌, ℕ, zero, suc, ◌+◌, ◌≤◌, ◌<◌, refl, sym, ap, ap₂, ◌∙◌, arith, suc-add, zero-add, ◌-◌}
use Rattle.std.proofs.Common.{subst}
use Rattle.code_spec.specs.Field.{gf_add, gf_mul, gf_pow}
use Rattle.code_laws.proofs.Ring.{ring, sums, zero_add, add_zero, mul_add, mul_comm, mul_assoc, mul_left_comm, mul_zero}
use Rattle.code_laws.proofs.Ring.{one_mul, mul_below, add_below, pow_suc, pow_zero, mul_one}
use Rattle.decoder_laws.specs.Series.{tail, cons, plus, scale, times, none, one, Below, Bytes, linear, horner}
use Rattle.decoder_laws.proofs.Series.{add_swap, times-plus_left, times_comm, times-scale_left, times-none_left}
use Rattle.decoder_laws.proofs.Series.{times-cons_zero, none_from_below}

-- ---- the linear factor and its inverse
pub horner-linear_at : (X : ℕ) (p : ℕ → ℕ) (k : ℕ) → horner X (linear X p) k ≡ p k
unfolding horner linear
horner-linear_at X p zero = refl
horner-linear_at X p (suc k) = rw (horner-linear_at X p k) (simp sums)

pub linear-horner_at : (X : ℕ) (p : ℕ → ℕ) (k : ℕ) → linear X (horner X p) k ≡ p k
unfolding horner linear
linear-horner_at X p zero = refl
linear-horner_at X p (suc k) = simp sums

linear_is : (X : ℕ) (p : ℕ → ℕ) → linear X p ≡ plus p (cons 0 (scale X p))
unfolding linear plus scale
linear_is X p = λ i k. at k i
  where
    at : (k : ℕ) → linear X p k ≡ gf_add (p k) (cons 0 (scale X p) k)
    at zero = sym (add_zero (p 0))
    at (suc k) = refl

pub times-linear_left : (X : ℕ) (p q : ℕ → ℕ) → times (linear X p) q ≡ linear X (times p q)
times-linear_left X p q =
    ap (λ (f : ℕ → ℕ). times f q) (linear_is X p) ∙ times-plus_left p (cons 0 (scale X p)) q
    ∙ ap (plus (times p q)) (times-cons_zero (scale X p) q ∙ ap (cons 0) (times-scale_left X p q))
    ∙ sym (linear_is X (times p q))

pub times-linear : (X : ℕ) (p q : ℕ → ℕ) → times p (linear X q) ≡ linear X (times p q)
times-linear X p q = times_comm p (linear X q) ∙ times-linear_left X q p ∙ ap (linear X) (times_comm q p)

pub horner-times : (X : ℕ) (p q : ℕ → ℕ) → horner X (times p q) ≡ times p (horner X q)
horner-times X p q =
    ap (horner X) (ap (times p) (sym (λ i k. linear-horner_at X q k i)) ∙ times-linear X p (horner X q))
    ∙ (λ i k. horner-linear_at X (times p (horner X q)) k i)

pub horner-plus : (X k : ℕ) (p q : ℕ → ℕ) → horner X (plus p q) k ≡ gf_add (horner X p k) (horner X q k)
unfolding horner plus
horner-plus X zero p q = refl
horner-plus X (suc k) p q =
    ap (λ (x : ℕ). gf_add (gf_mul X x) (gf_add (p (suc k)) (q (suc k)))) (horner-plus X k p q)
    ∙ ap (λ (x : ℕ). gf_add x (gf_add (p (suc k)) (q (suc k)))) (mul_add X (horner X p k) (horner X q k))
    ∙ add_swap (gf_mul X (horner X p k)) (gf_mul X (horner X q k)) (p (suc k)) (q (suc k))

pub horner-scale : (X c k : ℕ) (p : ℕ → ℕ) → horner X (scale c p) k ≡ gf_mul c (horner X p k)
unfolding horner scale
horner-scale X c zero p = refl
horner-scale X c (suc k) p =
    ap (λ (x : ℕ). gf_add (gf_mul X x) (gf_mul c (p (suc k)))) (horner-scale X c k p)
    ∙ ap (λ (x : ℕ). gf_add x (gf_mul c (p (suc k)))) (mul_left_comm X c (horner X p k))
    ∙ sym (mul_add c (gf_mul X (horner X p k)) (p (suc k)))

pub horner-linear : (X : ℕ) (p : ℕ → ℕ) → horner X (linear X p) ≡ p
horner-linear X p = λ i k. horner-linear_at X p k i

pub linear-horner : (X : ℕ) (p : ℕ → ℕ) → linear X (horner X p) ≡ p
linear-horner X p = λ i k. linear-horner_at X p k i

linear_comm_at : (X Y : ℕ) (p : ℕ → ℕ) (k : ℕ) → linear X (linear Y p) k ≡ linear Y (linear X p) k
unfolding linear
linear_comm_at X Y p zero = refl
linear_comm_at X Y p (suc zero) = alg (p 1) (gf_mul Y (p 0)) (gf_mul X (p 0))
  where
    alg : (a b c : ℕ) → gf_add (gf_add a b) c ≡ gf_add (gf_add a c) b
    alg a b c = simp sums
linear_comm_at X Y p (suc (suc k)) = alg X Y (p k) (p (suc k)) (p (suc (suc k)))
  where
    alg : (X Y a b c : ℕ) → gf_add (gf_add c (gf_mul Y b)) (gf_mul X (gf_add b (gf_mul Y a)))
        ≡ gf_add (gf_add c (gf_mul X b)) (gf_mul Y (gf_add b (gf_mul X a)))
    alg X Y a b c = simp ring

pub linear_comm : (X Y : ℕ) (p : ℕ → ℕ) → linear X (linear Y p) ≡ linear Y (linear X p)
linear_comm X Y p = λ i k. linear_comm_at X Y p k i

pub horner-linear_comm : (X Y : ℕ) (p : ℕ → ℕ) → horner X (linear Y p) ≡ linear Y (horner X p)
horner-linear_comm X Y p = ap (λ (f : ℕ → ℕ). horner X (linear Y f)) (sym (linear-horner X p))
    ∙ ap (horner X) (linear_comm Y X (horner X p))
    ∙ horner-linear X (linear Y (horner X p))

-- ---- the factor times the powers of X is 1
linear-geometric_at : (X e k : ℕ) → e < 256 → linear X (λ j. gf_mul e (gf_pow X j)) k ≡ scale e one k
unfolding linear scale one none
linear-geometric_at X e zero b = ap (gf_mul e) (pow_zero X)
linear-geometric_at X e (suc k) b = ap (λ (x : ℕ). gf_add (gf_mul e x) (gf_mul X (gf_mul e (gf_pow X k)))) (pow_suc X k)
    ∙ gone e X (gf_pow X k) ∙ sym (mul_zero e)
  where
    gone : (e X p : ℕ) → gf_add (gf_mul e (gf_mul X p)) (gf_mul X (gf_mul e p)) ≡ 0
    gone e X p = simp ring

pub linear-geometric : (X e : ℕ) → e < 256 → linear X (λ j. gf_mul e (gf_pow X j)) ≡ scale e one
linear-geometric X e b = λ i k. linear-geometric_at X e k b i

pub linear-bytes : (X : ℕ) (p : ℕ → ℕ) → Bytes p → Bytes (linear X p)
unfolding linear
linear-bytes X p h = record { at = go }
  where
    go : (k : ℕ) → linear X p k < 256
    go zero = h.at 0
    go (suc k) = add_below (p (suc k)) (gf_mul X (p k)) (h.at (suc k)) (mul_below X (p k))

-- ---- degrees
pub linear-below : (n X : ℕ) (p : ℕ → ℕ) → Below n p → Below (suc n) (linear X p)
unfolding linear
linear-below n X p h = record { at = go }
  where
    go : (k : ℕ) → suc n ≤ k → linear X p k ≡ 0
    go zero l = absurd (omega arith)
    go (suc k) l = ap₂ gf_add (h.at (suc k) (omega arith)) (ap (gf_mul X) (h.at k (omega arith)) ∙ mul_zero X)
        ∙ zero_add 0

pub horner-tail : (X m : ℕ) (p : ℕ → ℕ) → X < 256 → horner X p (suc m) ≡ gf_add (gf_mul (p 0) (gf_pow X (suc m)))
    (horner X (tail p) m)
unfolding horner
horner-tail X zero p b =
    ap (λ (x : ℕ). gf_add x (p 1)) (mul_comm X (p 0) ∙ ap (gf_mul (p 0))
    (sym (mul_one X b) ∙ ap (gf_mul X) (sym (pow_zero X)) ∙ sym (pow_suc X 0)))
horner-tail X (suc m) p b =
    ap (λ (x : ℕ). gf_add (gf_mul X x) (p (suc (suc m)))) (horner-tail X m p b)
    ∙ alg X (p 0) (gf_pow X (suc m)) (horner X (tail p) m) (p (suc (suc m)))
    ∙ ap (λ (x : ℕ). gf_add (gf_mul (p 0) x) (gf_add (gf_mul X (horner X (tail p) m)) (p (suc (suc m)))))
    (sym (pow_suc X (suc m)))
  where
    alg : (X c w h d : ℕ) → gf_add (gf_mul X (gf_add (gf_mul c w) h)) d
        ≡ gf_add (gf_mul c (gf_mul X w)) (gf_add (gf_mul X h) d)
    alg X c w h d = simp ring

pub horner-bytes : (X : ℕ) (p : ℕ → ℕ) → Bytes p → Bytes (horner X p)
unfolding horner
horner-bytes X p h = record { at = go }
  where
    go : (k : ℕ) → horner X p k < 256
    go zero = h.at 0
    go (suc k) = add_below (gf_mul X (horner X p k)) (p (suc k)) (mul_below X (horner X p k)) (h.at (suc k))

pub horner_past : (X n j : ℕ) (q : ℕ → ℕ) → Bytes q → Below (suc n) q
    → horner X q (j + n) ≡ gf_mul (gf_pow X j) (horner X q n)
unfolding horner
horner_past X n zero q b h = ap (horner X q) (zero-add n) ∙ sym
    (ap (λ (x : ℕ). gf_mul x (horner X q n)) (pow_zero X) ∙ one_mul (horner X q n) ((horner-bytes X q b).at n))
horner_past X n (suc j) q b h =
    ap (horner X q) (suc-add j n)
    ∙ ap₂ gf_add (ap (gf_mul X) (horner_past X n j q b h)) (h.at (suc (j + n)) (omega arith))
    ∙ add_zero (gf_mul X (gf_mul (gf_pow X j) (horner X q n)))
    ∙ sym (mul_assoc X (gf_pow X j) (horner X q n)) ∙ ap (λ (x : ℕ). gf_mul x (horner X q n)) (sym (pow_suc X j))

times-below_zero : (p g : ℕ → ℕ) (k : ℕ) → Below 0 p → times p g k ≡ 0
unfolding none
times-below_zero p g k h = ap (λ (f : ℕ → ℕ). times f g k) (none_from_below p h)
    ∙ ap (λ (f : ℕ → ℕ). f k) (times-none_left g)

tail_below : (m : ℕ) (p : ℕ → ℕ) → Below (suc m) p → Below m (tail p)
tail_below m p h = record { at = λ k l. h.at (suc k) (omega arith) }

times-horner_top : (X m n : ℕ) (p q : ℕ → ℕ) → X < 256 → Below (suc m) p → Below (suc n) q → Bytes q
    → times p (horner X q) (m + n) ≡ gf_mul (horner X p m) (horner X q n)
unfolding times horner
times-horner_top X zero zero p q bX hp hq b = refl
times-horner_top X zero (suc n) p q bX hp hq b =
    ap (times p (horner X q)) (zero-add (suc n))
    ∙ ap (gf_add (gf_mul (p 0) (horner X q (suc n)))) (times-below_zero (tail p) (horner X q) n (tail_below 0 p hp))
    ∙ add_zero (gf_mul (p 0) (horner X q (suc n)))
times-horner_top X (suc m) n p q bX hp hq b =
    ap (times p (horner X q)) (suc-add m n)
    ∙ ap₂ gf_add (ap (gf_mul (p 0)) (ap (horner X q) (sym (suc-add m n)) ∙ horner_past X n (suc m) q b hq))
    (times-horner_top X m n (tail p) q bX (tail_below (suc m) p hp) hq b)
    ∙ alg (p 0) (gf_pow X (suc m)) (horner X q n) (horner X (tail p) m)
    ∙ ap (λ (x : ℕ). gf_mul x (horner X q n)) (sym (horner-tail X m p bX))
  where
    alg : (c w g h : ℕ) → gf_add (gf_mul c (gf_mul w g)) (gf_mul h g) ≡ gf_mul (gf_add (gf_mul c w) h) g
    alg c w g h = simp ring

-- the value of a product
pub horner-product : (X m n : ℕ) (p q : ℕ → ℕ) → X < 256 → Below (suc m) p → Below (suc n) q → Bytes q
    → horner X (times p q) (m + n) ≡ gf_mul (horner X p m) (horner X q n)
horner-product X m n p q bX hp hq b = ap (λ (f : ℕ → ℕ). f (m + n)) (horner-times X p q)
    ∙ times-horner_top X m n p q bX hp hq b

-- the value of p times a linear factor
pub horner-factor : (X Y n : ℕ) (p : ℕ → ℕ) → Below (suc n) p
    → horner X (linear Y p) (suc n) ≡ gf_mul (gf_add X Y) (horner X p n)
unfolding linear horner
horner-factor X Y n p h = ap (λ (f : ℕ → ℕ). f (suc n)) (horner-linear_comm X Y p) ∙ at X Y n p h
  where
    alg : (X Y a : ℕ) → gf_add (gf_mul X a) (gf_mul Y a) ≡ gf_mul (gf_add X Y) a
    alg X Y a = simp ring

    at : (X Y n : ℕ) (p : ℕ → ℕ) → Below (suc n) p → linear Y (horner X p) (suc n) ≡ gf_mul (gf_add X Y) (horner X p n)
    at X Y n p h =
        ap (λ (x : ℕ). gf_add (gf_add (gf_mul X (horner X p n)) x) (gf_mul Y (horner X p n)))
        (h.at (suc n) (omega arith))
        ∙ ap (λ (x : ℕ). gf_add x (gf_mul Y (horner X p n))) (add_zero (gf_mul X (horner X p n)))
        ∙ alg X Y (horner X p n)

pub root_below : (X d : ℕ) (p : ℕ → ℕ) → Below (suc d) p → horner X p d ≡ 0 → Below d (horner X p)
unfolding horner
root_below X d p h e = record { at = λ k l. subst (λ (x : ℕ). horner X p x ≡ 0) (omega arith) (go (k - d)) }
  where
    go : (j : ℕ) → horner X p (j + d) ≡ 0
    go zero = ap (horner X p) (zero-add d) ∙ e
    go (suc j) = ap (horner X p) (suc-add j d) ∙ ap₂ gf_add (ap (gf_mul X) (go j) ∙ mul_zero X)
        (h.at (suc (j + d)) (omega arith)) ∙ zero_add 0

pub linear-zero : (X : ℕ) (p : ℕ → ℕ) → ((k : ℕ) → p k ≡ 0) → (k : ℕ) → linear X p k ≡ 0
unfolding linear
linear-zero X p h zero = h 0
linear-zero X p h (suc k) = ap₂ gf_add (h (suc k)) (ap (gf_mul X) (h k) ∙ mul_zero X) ∙ zero_add 0

pub horner-none : (X k : ℕ) → horner X none k ≡ 0
unfolding horner none
horner-none X zero = refl
horner-none X (suc k) = ap (λ (x : ℕ). gf_add (gf_mul X x) 0) (horner-none X k)
    ∙ ap (λ (x : ℕ). gf_add x 0) (mul_zero X)
    ∙ zero_add 0

pub horner_at_zero : (X : ℕ) (p : ℕ → ℕ) → horner X p 0 ≡ p 0
unfolding horner
horner_at_zero X p = refl
