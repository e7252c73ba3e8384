-- Counts over numbers that go up
use Rattle.std.proofs.Common.{◌≡◌, ℕ, zero, suc, ◌+◌, ◌*◌, ◌^◌, ◌-◌, ◌≤◌, map, Bool, [], ◌∷◌, ◌++◌, refl, sym, ap, ◌∙◌}
use Rattle.std.proofs.Common.{arith, add-one, add-zero}
use Rattle.std.specs.Prelude.{if◌then◌else◌, count_by, sum_by}
use Rattle.std.specs.List.{range_with_len}
use Rattle.std.proofs.lemmas.List.Sums.{sum_by-cons, count_by-le-length}
use Rattle.std.proofs.lemmas.List.FromFn.{length-range_with_len}
use Rattle.std.proofs.Math.Nat.{mul-le-mul}

abbrev one_if : Bool → ℕ
one_if b = if b then 1 else 0

count_first : (p : ℕ → Bool) (a n : ℕ)
    → count_by p (range_with_len a (suc n)) ≡ one_if (p a) + count_by p (range_with_len (a + 1) n)
count_first p a n = sum_by-cons (λ x. one_if (p x)) a (range_with_len (a + 1) n)

count_none : (p : ℕ → Bool) (a : ℕ) → count_by p (range_with_len a 0) ≡ 0
count_none p a = refl

count_suc : (p : ℕ → Bool) (a n : ℕ)
    → count_by p (range_with_len a (suc n)) ≡ count_by p (range_with_len a n) + one_if (p (a + n))
count_suc p a zero =
    let e : one_if (p a) ≡ one_if (p (a + 0)) = ap (λ n. one_if (p n)) (sym (add-zero a)) in
    omega (arith, e, count_first p a 0, count_none p a, count_none p (a + 1))
count_suc p a (suc n) =
    let rest = count_suc p (a + 1) n in
    let same : a + 1 + n ≡ a + suc n = omega arith in
    let e : one_if (p (a + 1 + n)) ≡ one_if (p (a + suc n)) = ap (λ n. one_if (p n)) same in
    omega (arith, rest, e, count_first p a (suc n), count_first p a n)

-- one number more
pub count_more : (p : ℕ → Bool) (n : ℕ)
    → count_by p (range_with_len 0 (n + 1)) ≡ count_by p (range_with_len 0 n) + (if p n then 1 else 0)
count_more p n =
    let e : one_if (p (0 + n)) ≡ one_if (p n) = ap (λ n. one_if (p n)) (omega arith) in
    rw add-one (count_suc p 0 n ∙ ap (λ m. count_by p (range_with_len 0 n) + m) e)

count_plus : (p : ℕ → Bool) (m k : ℕ)
    → count_by p (range_with_len 0 m) ≤ count_by p (range_with_len 0 (m + k))
count_plus p m zero = omega (arith, ap (λ n. count_by p (range_with_len 0 n)) (add-zero m))
count_plus p m (suc k) =
    let next : m + suc k ≡ suc (m + k) = omega arith in
    omega (arith, ap (λ n. count_by p (range_with_len 0 n)) next, count_suc p 0 (m + k), count_plus p m k)

-- fewer numbers
pub count_front : (p : ℕ → Bool) (m n : ℕ) → m ≤ n
    → count_by p (range_with_len 0 m) ≤ count_by p (range_with_len 0 n)
count_front p m n h =
    let e : m + (n - m) ≡ n = omega arith in
    omega (arith, count_plus p m (n - m), ap (λ n. count_by p (range_with_len 0 n)) e)

-- at most so many
pub count_range : (p : ℕ → Bool) (n : ℕ) → count_by p (range_with_len 0 n) ≤ n
count_range p n = omega (arith, count_by-le-length p (range_with_len 0 n), length-range_with_len 0 n)

-- a place in a row
pub product : (i size : ℕ) → i ≤ 2 ^ 25 → size ≤ 2 ^ 24 → i * size ≤ 2 ^ 49
product i size h k = mul-le-mul h k

-- a sum over numbers is at most that over what is made of them
pub sum_le : {X : Type 0} (f : ℕ → ℕ) (h : X → ℕ) (g : ℕ → X) → ((i : ℕ) → f i ≤ h (g i)) → (a n : ℕ)
    → sum_by f (range_with_len a n) ≤ sum_by h (map g (range_with_len a n))
sum_le f h g le a zero = omega arith
sum_le f h g le a (suc n) = omega (
  arith,
  sum_by-cons f a (range_with_len (a + 1) n),
  sum_by-cons h (g a) (map g (range_with_len (a + 1) n)),
  le a,
  sum_le f h g le (a + 1) n,
)

pub sum_ge : {X : Type 0} (f : ℕ → ℕ) (h : X → ℕ) (g : ℕ → X) → ((i : ℕ) → h (g i) ≤ f i) → (a n : ℕ)
    → sum_by h (map g (range_with_len a n)) ≤ sum_by f (range_with_len a n)
sum_ge f h g le a zero = omega arith
sum_ge f h g le a (suc n) = omega (
  arith,
  sum_by-cons f a (range_with_len (a + 1) n),
  sum_by-cons h (g a) (map g (range_with_len (a + 1) n)),
  le a,
  sum_ge f h g le (a + 1) n,
)

range_suc : (a n : ℕ) → range_with_len a (suc n) ≡ range_with_len a n ++ (a + n) ∷ []
range_suc a zero = ap (λ m. m ∷ []) (sym (add-zero a))
range_suc a (suc n) =
    let next : a + 1 + n ≡ a + suc n = omega arith in
    ap (λ xs. a ∷ xs) (range_suc (a + 1) n) ∙ ap (λ m. a ∷ (range_with_len (a + 1) n ++ m ∷ [])) next

-- one number more, behind the others
pub range_more : (a n : ℕ) → range_with_len a (n + 1) ≡ range_with_len a n ++ (a + n) ∷ []
range_more a n = rw add-one (range_suc a n)
