-- A number of blocks by two products
use Rattle.std.proofs.Common.{◌≡◌, ℕ, ◌+◌, ◌-◌, ◌*◌, ◌/◌, ◌<◌, ◌≤◌, ◌↔◌, arith}
use Rattle.std.proofs.Math.Nat.{div-lt_iff_lt-mul, le-div_iff_mul-le}

-- so many blocks of w bytes cover x bytes, and fewer do not
pub covers : (x w b : ℕ) → 0 < w → (b ≡ ((x + w) - 1) / w) ↔ ((x ≤ b * w) × (b * w < x + w))
covers x w b some =
    let more : (b + 1) * w ≡ b * w + w = grind arith in (
      λ e.
          (let low : b * w ≤ (x + w) - 1 = (le-div_iff_mul-le some).0 (omega (arith, e)) in
          let high : (x + w) - 1 < (b + 1) * w = (div-lt_iff_lt-mul some).0 (omega (arith, e)) in
          (omega (arith, high, more), omega (arith, low, some))),
      λ h.
          (let low : b ≤ ((x + w) - 1) / w = (le-div_iff_mul-le some).1 (omega (arith, h.1)) in
          let high : ((x + w) - 1) / w < b + 1 = (div-lt_iff_lt-mul some).1 (omega (arith, h.0, more, some)) in
          omega (arith, low, high)),
    )
