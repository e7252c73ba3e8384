-- A division rounded up: as a plain division, and which numbers are below it. For counts of blocks.
use Rattle.std.proofs.Common.{◌≡◌, ℕ, ◌+◌, ◌-◌, ◌*◌, ◌/◌, ◌%◌, ◌<◌, ◌≤◌, ◌⊎◌, inl, inr, min, sym, ap, ◌∙◌, arith}
use Rattle.std.proofs.Common.{mul_comm, mul-le-mul_right, add-mul}
use Rattle.std.proofs.lemmas.Nat.{div-mul-add}
use Rattle.std.proofs.lemmas.Grind.{div_ceil_times}
use Rattle.std.proofs.lemmas.Bool.{cases_lt}

pub div_ceil_is : (x k : ℕ) → 0 < k → x / k + min 1 (x % k) ≡ (x + k - 1) / k
div_ceil_is x k some =
    let t = div_ceil_times x k some in
    let q : ℕ = x / k + min 1 (x % k) in
    let low : x ≤ q * k = t.0 in
    let high : q * k < x + k = t.1 in
    sym (ap (λ (n : ℕ). n / k) (let e : x + k - 1 ≡ q * k + (x + k - 1 - q * k) = omega arith in e)
    ∙ div-mul-add q k (x + k - 1 - q * k) (omega arith))

pub lt_from_div_ceil : (x k b : ℕ) → 0 < k → b < x / k + min 1 (x % k) → k * b < x
lt_from_div_ceil x k b some h =
    let t = div_ceil_times x k some in
    let q : ℕ = x / k + min 1 (x % k) in
    let high : q * k < x + k = t.1 in
    let most : (b + 1) * k ≤ q * k = mul-le-mul_right k (let l : b + 1 ≤ q = omega arith in l) in
    omega (arith, mul_comm k b, add-mul b 1 k)

pub div_ceil_most : (x k : ℕ) → 0 < k → x / k + min 1 (x % k) ≤ x
div_ceil_most x k some = by (cases_lt x (x / k + min 1 (x % k)))
  where
    by : (x < x / k + min 1 (x % k)) ⊎ (x / k + min 1 (x % k) ≤ x) → x / k + min 1 (x % k) ≤ x
    by (inl more) = absurd (omega (arith, lt_from_div_ceil x k x some more, mul-le-mul_right x some))
    by (inr most) = most
