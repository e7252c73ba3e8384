-- Rounding down to a power of two
use Rattle.std.proofs.Common.{◌≡◌, ℕ, zero, suc, ◌*◌, ◌^◌, ◌<◌, ◌≤◌, ◌==◌, Bool, true, false, if◌then◌else◌, nat_le}
use Rattle.std.proofs.Common.{refl, ◌∙◌, arith}
use Rattle.std.proofs.Math.Nat.{pow-suc, pow-le-pow_right}
use Rattle.std.proofs.lemmas.Nat.{pow_pos}
use Rattle.std.proofs.lemmas.Bool.{le-leb, lt-leb, leb-true, leb-false, eqb-true, eqb-false}
use Rattle.ramoops_layout.proofs.Texts.{if_true, if_false}
use Rattle.zone_spec.specs.Layout.{power_within, rounded}

power_is : (k e n : ℕ) → e ≤ k → 2 ^ e ≤ n → n < 2 * 2 ^ e → power_within k n ≡ 2 ^ e
unfolding power_within
power_is zero e n small low high =
    let none : e ≡ 0 = omega arith in
    let one : n ≡ 1 = (let low' : 2 ^ 0 ≤ n = rw none at low in let high' : n < 2 * 2 ^ 0 = rw none at high in
    omega arith) in
    rw (none, one) refl
power_is (suc k) e n small low high = go (λ h. power_is k e n h low high) (nat_le (suc k) e) refl
  where
    go : (e ≤ k → power_within k n ≡ 2 ^ e) → (b : Bool) → nat_le (suc k) e ≡ b
        → (if nat_le (2 ^ suc k) n then 2 ^ suc k else power_within k n) ≡ 2 ^ e
    go deeper true t =
        let same : e ≡ suc k = omega (arith, leb-true (suc k) e t) in
        rw same (if_true (nat_le (2 ^ suc k) n) _ _ (le-leb _ _ (rw same at low)))
    go deeper false t = if_false (nat_le (2 ^ suc k) n) _ _
        (lt-leb _ _ (omega (
          arith,
          high,
          pow-le-pow_right {n = 2} (omega arith) {i = suc e} {j = suc k}
              (omega (arith, leb-false (suc k) e t)),
          pow-suc 2 e,
        ))) ∙ deeper (omega (arith, leb-false (suc k) e t))

pub rounded_zero : rounded 0 ≡ 0
unfolding rounded power_within
rounded_zero = refl

pub rounded_power : (e n : ℕ) → e < 64 → 2 ^ e ≤ n → n < 2 * 2 ^ e → rounded n ≡ 2 ^ e
unfolding rounded
rounded_power e n small low high = power_is 63 e n (omega arith) low high

within_le : (k n : ℕ) → power_within k n ≤ n
unfolding power_within
within_le zero n = zero_le (n == 0) refl
  where
    zero_le : (b : Bool) → (n == 0) ≡ b → (if b then 0 else 1) ≤ n
    zero_le true h = omega arith
    zero_le false h = omega (arith, eqb-false n 0 h)
within_le (suc k) n = step (within_le k n) (nat_le (2 ^ suc k) n) refl
  where
    step : power_within k n ≤ n → (b : Bool) → nat_le (2 ^ suc k) n ≡ b
        → (if b then 2 ^ suc k else power_within k n) ≤ n
    step rest true h = leb-true (2 ^ suc k) n h
    step rest false h = rest

-- what is rounded is at most what was given, and 0 only where that is
pub rounded_le : (n : ℕ) → rounded n ≤ n
unfolding rounded
rounded_le n = within_le 63 n

within_pos : (k n : ℕ) → 0 < n → 0 < power_within k n
unfolding power_within
within_pos zero n h = pos_zero (n == 0) refl
  where
    pos_zero : (b : Bool) → (n == 0) ≡ b → 0 < (if b then 0 else 1)
    pos_zero true e = absurd (omega (arith, eqb-true n 0 e))
    pos_zero false e = omega arith
within_pos (suc k) n h = step (within_pos k n h) (nat_le (2 ^ suc k) n)
  where
    step : 0 < power_within k n → (b : Bool) → 0 < (if b then 2 ^ suc k else power_within k n)
    step rest true = pow_pos (suc k)
    step rest false = rest

pub rounded_pos : (n : ℕ) → 0 < n → 0 < rounded n
unfolding rounded
rounded_pos n h = within_pos 63 n h
