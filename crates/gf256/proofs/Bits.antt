-- The product by the bits of one factor is the sum of the multiples by its bits
use Rattle.std.proofs.Common.{◌≡◌, ◌≢◌, ℕ, ◌+◌, ◌<◌, eqb, Bool, true, false, cond, refl, sym, ap, ap₂, ◌∙◌, get_or, ◌⊎◌}
use Rattle.std.proofs.Common.{inl, inr, bit_and}
use Rattle.std.proofs.lemmas.Bool.Decides.{eqb_tells, Decides-eqb}
use Rattle.code_spec.specs.Field.{gf_add, gf_mul, gf_pow}
use Rattle.gf256.specs.declared.TheConstants.{POWERS}
use Rattle.code_laws.proofs.Field.{below, checked}
use Rattle.code_laws.proofs.Ring.{zero_mul, mul_comm, add_mul}
use Rattle.code_laws.proofs.Powers.{pow_add}
use Rattle.gf256.proofs.Tables.{power_is}

-- the bit, where it is set in a
abbrev bit_of : ℕ → ℕ → ℕ
bit_of a bit = cond (eqb (bit_and a bit) 0) 0 bit

abbrev sum8 : ℕ → ℕ → ℕ → ℕ → ℕ → ℕ → ℕ → ℕ → ℕ
sum8 a b c d e f g h = gf_add (gf_add (gf_add a b) (gf_add c d)) (gf_add (gf_add e f) (gf_add g h))

abbrev bits_sum : ℕ → ℕ
bits_sum a = sum8 (bit_of a 1) (bit_of a 2) (bit_of a 4) (bit_of a 8) (bit_of a 16) (bit_of a 32) (bit_of a 64)
    (bit_of a 128)

bits_test : below (λ a. eqb (bits_sum a) a) 256 ≡ true
unfolding gf_add
bits_test = refl

bits_are : (a : ℕ) → a < 256 → bits_sum a ≡ a
bits_are a l = (Decides-eqb (bits_sum a) a).0 (checked (λ x. eqb (bits_sum x) x) 256 bits_test a l)

-- the power of 2 b places further is the multiple by bit b
pub power_at : (n b x bit : ℕ) → b < 510 → get_or POWERS b 0 ≡ bit → x ≡ gf_pow 2 (n + b) → x ≡ gf_mul bit (gf_pow 2 n)
power_at n b x bit l eb ex =
    ex ∙ pow_add 2 n b ∙ mul_comm (gf_pow 2 n) (gf_pow 2 b)
    ∙ ap (λ (y : ℕ). gf_mul y (gf_pow 2 n)) (sym (power_is b l) ∙ eb)

pub part_at : (a bit x y c : ℕ) → (bit_and a bit ≡ 0 → y ≡ 0) → (bit_and a bit ≢ 0 → y ≡ x) → x ≡ gf_mul bit c
    → y ≡ gf_mul (bit_of a bit) c
part_at a bit x y c hz ho ex = go (eqb_tells (bit_and a bit) 0)
  where
    go : ((eqb (bit_and a bit) 0 ≡ true) × (bit_and a bit ≡ 0))
        ⊎ ((eqb (bit_and a bit) 0 ≡ false) × (bit_and a bit ≢ 0))
        → y ≡ gf_mul (cond (eqb (bit_and a bit) 0) 0 bit) c
    go (inl h) = hz h.1 ∙ sym (ap (λ (b : Bool). gf_mul (cond b 0 bit) c) h.0 ∙ zero_mul c)
    go (inr h) = ho h.1 ∙ ex ∙ sym (ap (λ (b : Bool). gf_mul (cond b 0 bit) c) h.0)

pub parts_sum : (a c p0 p1 p2 p3 p4 p5 p6 p7 r : ℕ) → a < 256
    → p0 ≡ gf_mul (bit_of a 1) c → p1 ≡ gf_mul (bit_of a 2) c → p2 ≡ gf_mul (bit_of a 4) c
    → p3 ≡ gf_mul (bit_of a 8) c → p4 ≡ gf_mul (bit_of a 16) c → p5 ≡ gf_mul (bit_of a 32) c
    → p6 ≡ gf_mul (bit_of a 64) c → p7 ≡ gf_mul (bit_of a 128) c
    → r ≡ sum8 p0 p1 p2 p3 p4 p5 p6 p7 → r ≡ gf_mul a c
parts_sum a c p0 p1 p2 p3 p4 p5 p6 p7 r l e0 e1 e2 e3 e4 e5 e6 e7 e =
    e ∙ ap₂ gf_add (four p0 p1 p2 p3 (bit_of a 1) (bit_of a 2) (bit_of a 4) (bit_of a 8) e0 e1 e2 e3)
    (four p4 p5 p6 p7 (bit_of a 16) (bit_of a 32) (bit_of a 64) (bit_of a 128) e4 e5 e6 e7)
    ∙ sym (add_mul (gf_add (gf_add (bit_of a 1) (bit_of a 2)) (gf_add (bit_of a 4) (bit_of a 8)))
    (gf_add (gf_add (bit_of a 16) (bit_of a 32)) (gf_add (bit_of a 64) (bit_of a 128))) c)
    ∙ ap (λ (x : ℕ). gf_mul x c) (bits_are a l)
  where
    two : (p q x y : ℕ) → p ≡ gf_mul x c → q ≡ gf_mul y c → gf_add p q ≡ gf_mul (gf_add x y) c
    two p q x y ep eq = ap₂ gf_add ep eq ∙ sym (add_mul x y c)

    four : (p q r s x y z w : ℕ) → p ≡ gf_mul x c → q ≡ gf_mul y c → r ≡ gf_mul z c → s ≡ gf_mul w c
        → gf_add (gf_add p q) (gf_add r s) ≡ gf_mul (gf_add (gf_add x y) (gf_add z w)) c
    four p q r s x y z w ep eq er es =
        two (gf_add p q) (gf_add r s) (gf_add x y) (gf_add z w) (two p q x y ep eq) (two r s z w er es)
