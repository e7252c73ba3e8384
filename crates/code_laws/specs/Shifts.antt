-- The product of two bytes as it is done by hand: one factor doubled step by step, each double kept below 256
use Rattle.std.specs.Prelude.{ℕ, zero, suc, ◌*◌, ◌==◌, if◌then◌else◌, nat_lt, bit_xor}
use Rattle.std.specs.Int.{bit_at}

abbrev pub times_x : ℕ → ℕ
times_x a = if nat_lt a 128 then 2 * a else bit_xor (2 * a) 0x11d

unfoldable pub shifted : ℕ → ℕ → ℕ
shifted a zero = a
shifted a (suc i) = times_x (shifted a i)

-- the sum of a doubled i times, over the bits i below n of b that are set
unfoldable pub mul_bits : ℕ → ℕ → ℕ → ℕ
mul_bits a b zero = 0
mul_bits a b (suc i) = bit_xor (mul_bits a b i) (if bit_at b i == 1 then shifted a i else 0)
