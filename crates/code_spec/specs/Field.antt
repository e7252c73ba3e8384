-- The field of 256 elements whose polynomial is 0x11d, over bytes as numbers
use Rattle.std.specs.Prelude.{ℕ, zero, suc, ◌+◌, ◌*◌, ◌/◌, ◌%◌, ◌^◌, bit_xor}

-- the sum of a shifted left by i, over the bits i below n of b that are set
abbrev pub carryless : ℕ → ℕ → ℕ → ℕ
carryless zero a b = 0
carryless (suc n) a b = bit_xor (carryless n a b) (a * 2 ^ n * (b / 2 ^ n % 2))

-- p with the bits from 8 + n down to 8 cleared, each by 0x11d shifted up to it
abbrev pub reduced : ℕ → ℕ → ℕ
reduced zero p = p
reduced (suc n) p = reduced n (bit_xor p (0x11d * 2 ^ n * (p / 2 ^ (8 + n) % 2)))

-- the product of two bytes; of a larger number the low byte counts
unfoldable pub gf_mul : ℕ → ℕ → ℕ
gf_mul a b = reduced 7 (carryless 8 (a % 256) (b % 256))

unfoldable pub gf_pow : ℕ → ℕ → ℕ
gf_pow x zero = 1
gf_pow x (suc n) = gf_mul x (gf_pow x n)

-- the sum, opaque, so that tactics see one symbol
unfoldable pub gf_add : ℕ → ℕ → ℕ
gf_add a b = bit_xor a b
