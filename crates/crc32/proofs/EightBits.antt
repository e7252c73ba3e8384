-- Bits leave a sum as they leave its parts, so the low byte's row and the other bits are what eight bits leave
use Rattle.std.proofs.Common.{◌≡◌, ℕ, zero, suc, ◌+◌, ◌*◌, ◌/◌, ◌%◌, ◌^◌, ◌<◌, refl, sym, ap, ap₂, ◌∙◌, arith, bit_xor}
use Rattle.std.proofs.Common.{inl, inr, ◌⊎◌, pow-suc}
use Rattle.gzip_spec.specs.Crc.{shifted}
use Rattle.code_laws.proofs.Xor.{IsAdditive, top_bit, xor_swap, xor_zero_r, xor_shr, xor_mod, mod_two}

-- what one bit takes from the rest
taken : (x y : ℕ) → (x ≡ 0) ⊎ (x ≡ 1) → (y ≡ 0) ⊎ (y ≡ 1)
    → 0xedb88320 * bit_xor x y ≡ bit_xor (0xedb88320 * x) (0xedb88320 * y)
taken x y (inl p) (inl q) = rw (p, q) refl
taken x y (inl p) (inr q) = rw (p, q) refl
taken x y (inr p) (inl q) = rw (p, q) refl
taken x y (inr p) (inr q) = rw (p, q) refl

one_bit : (a b : ℕ) → bit_xor (bit_xor a b / 2) (0xedb88320 * (bit_xor a b % 2))
    ≡ bit_xor (bit_xor (a / 2) (0xedb88320 * (a % 2))) (bit_xor (b / 2) (0xedb88320 * (b % 2)))
one_bit a b =
    ap₂ bit_xor (xor_shr a b 1)
    (ap (λ (x : ℕ). 0xedb88320 * x) (xor_mod a b 1) ∙ taken (a % 2) (b % 2) (mod_two a) (mod_two b))
    ∙ xor_swap (a / 2) (b / 2) (0xedb88320 * (a % 2)) (0xedb88320 * (b % 2))

shifted_xor : (n a b : ℕ) → shifted n (bit_xor a b) ≡ bit_xor (shifted n a) (shifted n b)
unfolding shifted
shifted_xor zero a b = refl
shifted_xor (suc n) a b =
    ap (shifted n) (one_bit a b)
    ∙ shifted_xor n (bit_xor (a / 2) (0xedb88320 * (a % 2))) (bit_xor (b / 2) (0xedb88320 * (b % 2)))

additive : (n : ℕ) → IsAdditive (shifted n)
additive n = record { at_xor = shifted_xor n }

-- zeros leave and take nothing
zeros_leave : (n q : ℕ) → shifted n (q * 2 ^ n) ≡ q
unfolding shifted
zeros_leave zero q = let e : q * 1 ≡ q = omega arith in e
zeros_leave (suc n) q =
    let half : q * 2 ^ suc n ≡ 2 * (q * 2 ^ n) = rw pow-suc (omega arith) in
    let low : q * 2 ^ suc n % 2 ≡ 0 = omega (arith, half) in
    let rest : q * 2 ^ suc n / 2 ≡ q * 2 ^ n = omega (arith, half) in
    ap₂ (λ (x y : ℕ). shifted n (bit_xor x (0xedb88320 * y))) rest low
    ∙ ap (shifted n) (xor_zero_r (q * 2 ^ n)) ∙ zeros_leave n q

pub low_byte : (x : ℕ) → bit_xor (x / 256) (shifted 8 (x % 256)) ≡ shifted 8 x
low_byte x =
    let low : x % 256 < 256 = omega arith in
    let parts : x / 256 * 256 + x % 256 ≡ x = omega arith in
    ap (λ (y : ℕ). bit_xor y (shifted 8 (x % 256))) (sym (zeros_leave 8 (x / 256)))
    ∙ sym (top_bit (shifted 8) 8 (x / 256) (x % 256) (additive 8) low) ∙ ap (shifted 8) parts
