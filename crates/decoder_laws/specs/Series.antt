-- Polynomials as power series: functions from the power to the coefficient
use Rattle.std.specs.Prelude.{ℕ, zero, suc, ◌≡◌, ◌≤◌, ◌<◌}
use Rattle.code_spec.specs.Field.{gf_add, gf_mul}

abbrev pub tail : (ℕ → ℕ) → ℕ → ℕ
tail p k = p (suc k)

-- c + x p
abbrev pub cons : ℕ → (ℕ → ℕ) → ℕ → ℕ
cons c p zero = c
cons c p (suc k) = p k

unfoldable pub plus : (ℕ → ℕ) → (ℕ → ℕ) → ℕ → ℕ
plus p q k = gf_add (p k) (q k)

unfoldable pub scale : ℕ → (ℕ → ℕ) → ℕ → ℕ
scale c p k = gf_mul c (p k)

-- the coefficient of power k is the sum of p i times q (k - i)
unfoldable pub times : (ℕ → ℕ) → (ℕ → ℕ) → ℕ → ℕ
times p q zero = gf_mul (p 0) (q 0)
times p q (suc k) = gf_add (gf_mul (p 0) (q (suc k))) (times (tail p) q k)

-- p times x to the n
unfoldable pub shift : ℕ → (ℕ → ℕ) → ℕ → ℕ
shift zero p = p
shift (suc n) p = cons 0 (shift n p)

unfoldable pub none : ℕ → ℕ
none k = 0

unfoldable pub one : ℕ → ℕ
one = cons 1 none

-- at most n coefficients
pub record Below (n : ℕ) (p : ℕ → ℕ) : Type 0 where
  pub at : (k : ℕ) → n ≤ k → p k ≡ 0

-- equal modulo x to the n
pub record Agree (n : ℕ) (p q : ℕ → ℕ) : Type 0 where
  pub at : (k : ℕ) → k < n → p k ≡ q k

pub record Bytes (p : ℕ → ℕ) : Type 0 where
  pub at : (k : ℕ) → p k < 256

-- (1 + X x) p
unfoldable pub linear : ℕ → (ℕ → ℕ) → ℕ → ℕ
linear X p zero = p 0
linear X p (suc k) = gf_add (p (suc k)) (gf_mul X (p k))

-- p / (1 + X x): at k, the value at X of the word of the coefficients 0 to k
unfoldable pub horner : ℕ → (ℕ → ℕ) → ℕ → ℕ
horner X p zero = p 0
horner X p (suc k) = gf_add (gf_mul X (horner X p k)) (p (suc k))
