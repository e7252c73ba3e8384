-- What `==` answers of two numbers, where one is known to be below the other. For names, ranks and counts of bytes.
use Rattle.std.proofs.Common.{◌≡◌, ℕ, ◌<◌, ◌==◌, false, arith}
use Rattle.std.proofs.lemmas.Bool.Decides.{nat_tests}

pub eqb_from_lt : (a b : ℕ) → a < b → (a == b) ≡ false
eqb_from_lt a b h = grind (arith, nat_tests)

pub eqb_zero_from_lt : (n : ℕ) → 0 < n → (n == 0) ≡ false
eqb_zero_from_lt n h = grind (arith, nat_tests)
