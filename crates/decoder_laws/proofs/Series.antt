-- The laws of power series: a ring, its shifts, degrees and low coefficients. For all files of these laws, and for the
-- rows of Euclid's algorithm in rs_decode.
use Rattle.std.proofs.Common.{◌≡◌, ℕ, zero, suc, ◌+◌, ◌≤◌, ◌<◌, refl, sym, ap, ap₂, ◌∙◌, arith, suc-add, zero-add}
use Rattle.std.proofs.Common.{zero-le, subst, ◌⊎◌, inl, inr}
use Rattle.code_spec.specs.Field.{gf_add, gf_mul}
use Rattle.code_laws.proofs.Ring.{sums, add_comm, add_assoc, add_left_comm, add_self, add_cancel, zero_add, add_zero}
use Rattle.code_laws.proofs.Ring.{mul_add, add_mul, mul_comm, mul_assoc, zero_mul, mul_zero, one_mul, mul_below}
use Rattle.code_laws.proofs.Ring.{add_below, mul_one}
use Rattle.decoder_laws.specs.Series.{tail, cons, plus, scale, times, shift, none, one, Below, Agree, Bytes}
use Rattle.std.proofs.lemmas.Bool.{cases_lt}

pub add_swap : (a b c d : ℕ) → gf_add (gf_add a b) (gf_add c d) ≡ gf_add (gf_add a c) (gf_add b d)
add_swap a b c d = simp sums

-- ---- at one coefficient
times-plus_at : (k : ℕ) (p q r : ℕ → ℕ) → times p (plus q r) k ≡ gf_add (times p q k) (times p r k)
unfolding times plus
times-plus_at zero p q r = mul_add (p 0) (q 0) (r 0)
times-plus_at (suc k) p q r =
    ap₂ gf_add (mul_add (p 0) (q (suc k)) (r (suc k))) (times-plus_at k (tail p) q r)
    ∙ add_swap (gf_mul (p 0) (q (suc k))) (gf_mul (p 0) (r (suc k))) (times (tail p) q k) (times (tail p) r k)

times-plus_left_at : (k : ℕ) (p q r : ℕ → ℕ) → times (plus p q) r k ≡ gf_add (times p r k) (times q r k)
unfolding times plus
times-plus_left_at zero p q r = add_mul (p 0) (q 0) (r 0)
times-plus_left_at (suc k) p q r =
    ap₂ gf_add (add_mul (p 0) (q 0) (r (suc k))) (times-plus_left_at k (tail p) (tail q) r)
    ∙ add_swap (gf_mul (p 0) (r (suc k))) (gf_mul (q 0) (r (suc k))) (times (tail p) r k) (times (tail q) r k)

times-scale_left_at : (k c : ℕ) (p q : ℕ → ℕ) → times (scale c p) q k ≡ gf_mul c (times p q k)
unfolding times scale
times-scale_left_at zero c p q = mul_assoc c (p 0) (q 0)
times-scale_left_at (suc k) c p q =
    ap₂ gf_add (mul_assoc c (p 0) (q (suc k))) (times-scale_left_at k c (tail p) q)
    ∙ sym (mul_add c (gf_mul (p 0) (q (suc k))) (times (tail p) q k))

-- the last term the other way
times_last : (k : ℕ) (p q : ℕ → ℕ) → times p q (suc k) ≡ gf_add (times p (tail q) k) (gf_mul (p (suc k)) (q 0))
unfolding times
times_last zero p q = refl
times_last (suc k) p q =
    ap (gf_add (gf_mul (p 0) (q (suc (suc k))))) (times_last k (tail p) q)
    ∙ sym (add_assoc (gf_mul (p 0) (q (suc (suc k)))) (times (tail p) (tail q) k) (gf_mul (p (suc (suc k))) (q 0)))

times_comm_at : (k : ℕ) (p q : ℕ → ℕ) → times p q k ≡ times q p k
unfolding times
times_comm_at zero p q = mul_comm (p 0) (q 0)
times_comm_at (suc k) p q =
    ap₂ gf_add (mul_comm (p 0) (q (suc k))) (times_comm_at k (tail p) q)
    ∙ add_comm (gf_mul (q (suc k)) (p 0)) (times q (tail p) k) ∙ sym (times_last k q p)

times_assoc_at : (k : ℕ) (p q r : ℕ → ℕ) → times (times p q) r k ≡ times p (times q r) k
unfolding times scale plus
times_assoc_at zero p q r = mul_assoc (p 0) (q 0) (r 0)
times_assoc_at (suc k) p q r =
    let split : times (plus (scale (p 0) (tail q)) (times (tail p) q)) r k
    ≡ gf_add (gf_mul (p 0) (times (tail q) r k)) (times (tail p) (times q r) k) =
    times-plus_left_at k (scale (p 0) (tail q)) (times (tail p) q) r
    ∙ ap₂ gf_add (times-scale_left_at k (p 0) (tail q) r) (times_assoc_at k (tail p) q r) in
    ap₂ gf_add (mul_assoc (p 0) (q 0) (r (suc k))) split
    ∙ sym (add_assoc (gf_mul (p 0) (gf_mul (q 0) (r (suc k)))) (gf_mul (p 0) (times (tail q) r k))
    (times (tail p) (times q r) k))
    ∙ ap (λ (x : ℕ). gf_add x (times (tail p) (times q r) k))
    (sym (mul_add (p 0) (gf_mul (q 0) (r (suc k))) (times (tail q) r k)))

-- ---- as equations of series
pub plus_comm : (p q : ℕ → ℕ) → plus p q ≡ plus q p
unfolding plus
plus_comm p q = λ i k. add_comm (p k) (q k) i

pub plus_assoc : (p q r : ℕ → ℕ) → plus (plus p q) r ≡ plus p (plus q r)
unfolding plus
plus_assoc p q r = λ i k. add_assoc (p k) (q k) (r k) i

pub plus_left_comm : (p q r : ℕ → ℕ) → plus p (plus q r) ≡ plus q (plus p r)
unfolding plus
plus_left_comm p q r = λ i k. add_left_comm (p k) (q k) (r k) i

pub plus_self : (p : ℕ → ℕ) → plus p p ≡ none
unfolding plus none
plus_self p = λ i k. add_self (p k) i

pub plus_cancel : (p q : ℕ → ℕ) → plus p (plus p q) ≡ q
unfolding plus
plus_cancel p q = λ i k. add_cancel (p k) (q k) i

pub plus-none_left : (p : ℕ → ℕ) → plus none p ≡ p
unfolding plus none
plus-none_left p = λ i k. zero_add (p k) i

pub plus-none : (p : ℕ → ℕ) → plus p none ≡ p
unfolding plus none
plus-none p = λ i k. add_zero (p k) i

pub times-plus : (p q r : ℕ → ℕ) → times p (plus q r) ≡ plus (times p q) (times p r)
unfolding plus
times-plus p q r = λ i k. times-plus_at k p q r i

pub times-plus_left : (p q r : ℕ → ℕ) → times (plus p q) r ≡ plus (times p r) (times q r)
unfolding plus
times-plus_left p q r = λ i k. times-plus_left_at k p q r i

pub times_comm : (p q : ℕ → ℕ) → times p q ≡ times q p
times_comm p q = λ i k. times_comm_at k p q i

pub times_assoc : (p q r : ℕ → ℕ) → times (times p q) r ≡ times p (times q r)
times_assoc p q r = λ i k. times_assoc_at k p q r i

pub times_left_comm : (p q r : ℕ → ℕ) → times p (times q r) ≡ times q (times p r)
times_left_comm p q r = sym (times_assoc p q r) ∙ ap (λ (x : ℕ → ℕ). times x r) (times_comm p q) ∙ times_assoc q p r

pub times-scale_left : (c : ℕ) (p q : ℕ → ℕ) → times (scale c p) q ≡ scale c (times p q)
unfolding scale
times-scale_left c p q = λ i k. times-scale_left_at k c p q i

pub times-scale : (c : ℕ) (p q : ℕ → ℕ) → times p (scale c q) ≡ scale c (times p q)
times-scale c p q = times_comm p (scale c q) ∙ times-scale_left c q p ∙ ap (scale c) (times_comm q p)

times-none_left_at : (k : ℕ) (p : ℕ → ℕ) → times none p k ≡ 0
unfolding times none
times-none_left_at zero p = zero_mul (p 0)
times-none_left_at (suc k) p = ap₂ gf_add (zero_mul (p (suc k))) (times-none_left_at k p) ∙ zero_add 0

pub times-none_left : (p : ℕ → ℕ) → times none p ≡ none
unfolding none
times-none_left p = λ i k. times-none_left_at k p i

pub times-none : (p : ℕ → ℕ) → times p none ≡ none
times-none p = times_comm p none ∙ times-none_left p

pub ruleset series = (
  times-plus,
  times-plus_left,
  times_assoc,
  times_comm,
  times_left_comm,
  times-none_left,
  times-none,
  plus_assoc,
  plus_comm,
  plus_left_comm,
  plus_self,
  plus_cancel,
  plus-none_left,
  plus-none,
)

-- ---- shifts, and one
times-cons_at : (c : ℕ) (p q : ℕ → ℕ) (k : ℕ) → times (cons c p) q k ≡ gf_add (gf_mul c (q k)) (cons 0 (times p q) k)
unfolding times
times-cons_at c p q zero = sym (add_zero (gf_mul c (q 0)))
times-cons_at c p q (suc k) = refl

pub times-cons_zero : (p q : ℕ → ℕ) → times (cons 0 p) q ≡ cons 0 (times p q)
times-cons_zero p q = λ i k. (times-cons_at 0 p q k ∙ ap (λ (x : ℕ). gf_add x (cons 0 (times p q) k)) (zero_mul (q k))
    ∙ zero_add (cons 0 (times p q) k)) i

pub times-shift_left : (n : ℕ) (p q : ℕ → ℕ) → times (shift n p) q ≡ shift n (times p q)
unfolding shift
times-shift_left zero p q = refl
times-shift_left (suc n) p q = times-cons_zero (shift n p) q ∙ ap (cons 0) (times-shift_left n p q)

pub times-shift : (n : ℕ) (p q : ℕ → ℕ) → times p (shift n q) ≡ shift n (times p q)
times-shift n p q = times_comm p (shift n q) ∙ times-shift_left n q p ∙ ap (shift n) (times_comm q p)

pub shift_past : (n k : ℕ) (p : ℕ → ℕ) → shift n p (n + k) ≡ p k
unfolding shift
shift_past zero k p = ap p (zero-add k)
shift_past (suc n) k p = rw (suc-add n k) (shift_past n k p)

pub shift_below : (n k : ℕ) (p : ℕ → ℕ) → k < n → shift n p k ≡ 0
unfolding shift
shift_below zero k p l = absurd (omega arith)
shift_below (suc n) zero p l = refl
shift_below (suc n) (suc k) p l = shift_below n k p (omega arith)

pub shift_injective : (n : ℕ) (p q : ℕ → ℕ) → shift n p ≡ shift n q → p ≡ q
shift_injective n p q e = λ i k. (sym (shift_past n k p) ∙ ap (λ (f : ℕ → ℕ). f (n + k)) e ∙ shift_past n k q) i

-- a series with no coefficient below n is a shifted one
pub unshift : (n : ℕ) (p : ℕ → ℕ) → Agree n p none → p ≡ shift n (λ k. p (n + k))
unfolding shift none
unshift zero p h = λ i k. ap p (sym (zero-add k)) i
unshift (suc n) p h =
    let rest : tail p ≡ shift n (λ k. tail p (n + k)) = unshift n (tail p)
    (record { at = λ k l. h.at (suc k) (omega arith) }) in
    λ i k. step rest k i
  where
    step : (tail p ≡ shift n (λ k. tail p (n + k))) → (k : ℕ) → p k ≡ cons 0 (shift n (λ k. p (suc n + k))) k
    step rest zero = h.at 0 (omega arith)
    step rest (suc k) = ap (λ (f : ℕ → ℕ). f k) rest ∙ ap (λ (f : ℕ → ℕ). shift n f k)
        (λ i j. ap p (sym (suc-add n j)) i)

pub times-bytes : (p q : ℕ → ℕ) → Bytes (times p q)
unfolding times
times-bytes p q = record { at = λ k. go k p q }
  where
    go : (k : ℕ) (p q : ℕ → ℕ) → times p q k < 256
    go zero p q = mul_below (p 0) (q 0)
    go (suc k) p q = add_below (gf_mul (p 0) (q (suc k))) (times (tail p) q k) (mul_below (p 0) (q (suc k)))
        (go k (tail p) q)

times-one_left_at : (p : ℕ → ℕ) → Bytes p → (k : ℕ) → times one p k ≡ p k
unfolding times one
times-one_left_at p b zero = one_mul (p 0) (b.at 0)
times-one_left_at p b (suc k) = ap₂ gf_add (one_mul (p (suc k)) (b.at (suc k))) (times-none_left_at k p)
    ∙ add_zero (p (suc k))

pub times-one_left : (p : ℕ → ℕ) → Bytes p → times one p ≡ p
times-one_left p b = λ i k. times-one_left_at p b k i

-- ---- degrees
pub none_from_below : (p : ℕ → ℕ) → Below 0 p → p ≡ none
unfolding none
none_from_below p hp = λ i k. hp.at k zero-le i

pub times-below : (m n : ℕ) (p q : ℕ → ℕ) → Below m p → Below (suc n) q → Below (m + n) (times p q)
unfolding times
times-below m n p q hp hq = record { at = λ k l. go m p hp k l }
  where
    go : (m : ℕ) (p : ℕ → ℕ) → Below m p → (k : ℕ) → m + n ≤ k → times p q k ≡ 0
    go zero p hp k l = ap (λ (f : ℕ → ℕ). times f q k) (none_from_below p hp) ∙ times-none_left_at k q
    go (suc m) p hp zero l = absurd (omega arith)
    go (suc m) p hp (suc k) l =
        let e : q (suc k) ≡ 0 = hq.at (suc k) (omega arith) in
        let r : times (tail p) q k ≡ 0 = go m (tail p) (record { at = λ j h. hp.at (suc j) (omega arith) }) k
        (omega arith) in
        ap₂ gf_add (ap (gf_mul (p 0)) e ∙ mul_zero (p 0)) r ∙ zero_add 0

-- ---- low coefficients
times_low : (k : ℕ) (p p' q : ℕ → ℕ) → ((j : ℕ) → j ≤ k → p j ≡ p' j) → times p q k ≡ times p' q k
unfolding times
times_low zero p p' q h = ap (λ (x : ℕ). gf_mul x (q 0)) (h 0 (omega arith))
times_low (suc k) p p' q h =
    ap₂ (λ (x y : ℕ). gf_add (gf_mul x (q (suc k))) y) (h 0 (omega arith))
    (times_low k (tail p) (tail p') q (λ j l. h (suc j) (omega arith)))

pub times-agree_left : (n : ℕ) (p p' q : ℕ → ℕ) → Agree n p p' → Agree n (times p q) (times p' q)
times-agree_left n p p' q h = record { at = λ k l. times_low k p p' q (λ j h'. h.at j (omega arith)) }

pub times-cons : (c : ℕ) (p q : ℕ → ℕ) → times (cons c p) q ≡ plus (cons 0 (times p q)) (scale c q)
unfolding plus scale
times-cons c p q = λ i k. (times-cons_at c p q k ∙ add_comm (gf_mul c (q k)) (cons 0 (times p q) k)) i

-- ---- x to a power
pub shift-cons : (n : ℕ) (p : ℕ → ℕ) → shift n (cons 0 p) ≡ cons 0 (shift n p)
unfolding shift
shift-cons zero p = refl
shift-cons (suc n) p = ap (cons 0) (shift-cons n p)

pub shift-bytes : (n : ℕ) (p : ℕ → ℕ) → Bytes p → Bytes (shift n p)
unfolding shift
shift-bytes zero p h = h
shift-bytes (suc n) p h = cons_bytes (shift n p) (shift-bytes n p h)
  where
    cons_bytes : (p : ℕ → ℕ) → Bytes p → Bytes (cons 0 p)
    cons_bytes p h = record { at = go }
      where
        go : (k : ℕ) → cons 0 p k < 256
        go zero = omega arith
        go (suc k) = h.at k

pub none-bytes : Bytes none
unfolding none
none-bytes = record { at = λ k. omega arith }

pub plus-bytes : (p q : ℕ → ℕ) → Bytes p → Bytes q → Bytes (plus p q)
unfolding plus
plus-bytes p q h k = record { at = λ j. add_below (p j) (q j) (h.at j) (k.at j) }

pub plus-agree : (n : ℕ) (p p' q q' : ℕ → ℕ) → Agree n p p' → Agree n q q' → Agree n (plus p q) (plus p' q')
unfolding plus
plus-agree n p p' q q' h k = record { at = λ j l. ap₂ gf_add (h.at j l) (k.at j l) }

pub agree_from_equal : (n : ℕ) (p p' q : ℕ → ℕ) → p ≡ p' → Agree n p' q → Agree n p q
agree_from_equal n p p' q e h = record { at = λ j l. ap (λ (f : ℕ → ℕ). f j) e ∙ h.at j l }

pub one-bytes : Bytes one
unfolding one none
one-bytes = record { at = go }
  where
    go : (k : ℕ) → one k < 256
    go zero = omega arith
    go (suc k) = omega arith

-- ---- equal low coefficients
pub agree_zero : (n : ℕ) (p q : ℕ → ℕ) → Agree n p q → Agree n (plus p q) none
unfolding plus none
agree_zero n p q h = record { at = λ k l. ap (λ (x : ℕ). gf_add x (q k)) (h.at k l) ∙ add_self (q k) }

pub agree_trans : (n : ℕ) (p q r : ℕ → ℕ) → Agree n p q → Agree n q r → Agree n p r
agree_trans n p q r h k = record { at = λ j l. h.at j l ∙ k.at j l }

pub agree_sym : (n : ℕ) (p q : ℕ → ℕ) → Agree n p q → Agree n q p
agree_sym n p q h = record { at = λ j l. sym (h.at j l) }

pub agree_of : (n : ℕ) (p q : ℕ → ℕ) → p ≡ q → Agree n p q
agree_of n p q e = record { at = λ j l. ap (λ (f : ℕ → ℕ). f j) e }

pub times-agree : (n : ℕ) (p q q' : ℕ → ℕ) → Agree n q q' → Agree n (times p q) (times p q')
times-agree n p q q' h =
    agree_trans n (times p q) (times q p) (times p q') (agree_of n (times p q) (times q p) (times_comm p q))
    (agree_trans n (times q p) (times q' p) (times p q') (times-agree_left n q q' p h)
    (agree_of n (times q' p) (times p q') (times_comm q' p)))

pub equal_from_agree : (n : ℕ) (p q : ℕ → ℕ) → Agree n p q → Below n p → Below n q → p ≡ q
equal_from_agree n p q h hp hq = λ i k. at k (cases_lt k n) i
  where
    at : (k : ℕ) → (k < n) ⊎ (n ≤ k) → p k ≡ q k
    at k (inl l) = h.at k l
    at k (inr l) = hp.at k l ∙ sym (hq.at k l)

pub below_weaken : (m n : ℕ) (p : ℕ → ℕ) → m ≤ n → Below m p → Below n p
below_weaken m n p l h = record { at = λ k l'. h.at k (omega arith) }

pub below_comm : (n : ℕ) (p q : ℕ → ℕ) → Below n (times p q) → Below n (times q p)
below_comm n p q h = subst (Below n) (times_comm p q) h

pub constant : (p : ℕ → ℕ) → Bytes p → Below 1 p → p ≡ scale (p 0) one
unfolding scale one none
constant p b h = λ i k. at k i
  where
    at : (k : ℕ) → p k ≡ gf_mul (p 0) (one k)
    at zero = sym (mul_one (p 0) (b.at 0))
    at (suc k) = h.at (suc k) (omega arith) ∙ sym (mul_zero (p 0))

pub scale-none : (f : ℕ) → scale f none ≡ none
unfolding scale none
scale-none f = λ i k. mul_zero f i

pub scale_at : (c k : ℕ) (p : ℕ → ℕ) → scale c p k ≡ gf_mul c (p k)
unfolding scale
scale_at c k p = refl
