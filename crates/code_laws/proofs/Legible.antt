-- The product of bytes by the shifted multiples of one, as a reader knows it
use Rattle.std.proofs.Common.{◌≡◌, ℕ, zero, suc, ◌+◌, ◌/◌, ◌%◌, ◌^◌, ◌<◌, ◌⊎◌, inl, inr, bit_xor, true, eqb, ◌==◌}
use Rattle.std.proofs.Common.{if◌then◌else◌, refl, sym, ap, ap₂, ◌∙◌, arith, mod-lt}
use Rattle.std.specs.Int.{bit_at}
use Rattle.std.proofs.lemmas.Bool.Decides.{Decides-eqb}
use Rattle.std.proofs.lemmas.Nat.Bits.{bit_at_xor}
use Rattle.code_spec.specs.Field.{gf_mul}
use Rattle.code_laws.specs.Shifts.{shifted, mul_bits}
use Rattle.code_laws.proofs.Xor.{same_additive, xor_swap, xor_self, xor_zero_r, below_two}
use Rattle.code_laws.proofs.Field.{additive_r, below, checked}

term_xor : (s x y : ℕ) → (x ≡ 0) ⊎ (x ≡ 1) → (y ≡ 0) ⊎ (y ≡ 1)
    → (if (x + y) % 2 == 1 then s else 0) ≡ bit_xor (if x == 1 then s else 0) (if y == 1 then s else 0)
term_xor s x y (inl e) (inl f) = rw (e, f) refl
term_xor s x y (inl e) (inr f) = rw (e, f) refl
term_xor s x y (inr e) (inl f) = rw (e, f) (sym (xor_zero_r s))
term_xor s x y (inr e) (inr f) = rw (e, f) (sym (xor_self s))

bit_is : (b i : ℕ) → (bit_at b i ≡ 0) ⊎ (bit_at b i ≡ 1)
bit_is b i = below_two (b / 2 ^ i % 2) (mod-lt (b / 2 ^ i) (let h : 0 < 2 = omega arith in h))

mul_bits_xor : (a b c n : ℕ) → mul_bits a (bit_xor b c) n ≡ bit_xor (mul_bits a b n) (mul_bits a c n)
unfolding mul_bits
mul_bits_xor a b c zero = refl
mul_bits_xor a b c (suc i) =
    ap₂ bit_xor (mul_bits_xor a b c i) (ap (λ t. if t == 1 then shifted a i else 0) (bit_at_xor b c i)
    ∙ term_xor (shifted a i) (bit_at b i) (bit_at c i) (bit_is b i) (bit_is c i))
    ∙ xor_swap (mul_bits a b i) (mul_bits a c i) (if bit_at b i == 1 then shifted a i else 0)
    (if bit_at c i == 1 then shifted a i else 0)

agree_test : below (λ a. below (λ i. eqb (mul_bits a (2 ^ i) 8) (gf_mul a (2 ^ i))) 8) 256 ≡ true
unfolding mul_bits shifted gf_mul
agree_test = refl

-- of bytes the two products are one
pub agree : (a b : ℕ) → a < 256 → b < 256 → mul_bits a b 8 ≡ gf_mul a b
agree a b h k =
    same_additive (λ x. mul_bits a x 8) (λ x. gf_mul a x) (record { at_xor = λ b c. mul_bits_xor a b c 8 })
    (additive_r a) 8
    (λ i l. (Decides-eqb (mul_bits a (2 ^ i) 8) (gf_mul a (2 ^ i))).0
    (checked (λ i. eqb (mul_bits a (2 ^ i) 8) (gf_mul a (2 ^ i))) 8
    (checked (λ a. below (λ i. eqb (mul_bits a (2 ^ i) 8) (gf_mul a (2 ^ i))) 8) 256 agree_test a h) i l))
    b (omega arith)
