-- exclusive-or as a group, shifts and bits of it, and functions that keep it
use Rattle.std.proofs.Common.{◌≡◌, ℕ, zero, suc, ◌+◌, ◌*◌, ◌/◌, ◌%◌, ◌^◌, ◌<◌, bit_xor, refl, sym, ap, ◌∙◌, ap₂, arith}
use Rattle.std.proofs.Common.{inl, inr, ◌⊎◌, mul-zero, mul-one, add-zero, pow-suc, zero-mul, one-mul, div-lt_iff_lt-mul}
use Rattle.std.proofs.Common.{mod-lt, mul_comm}
pub use lib.Bits.{xor_zero_l, xor_zero_r, xor_self, xor_assoc}
pub use Rattle.std.proofs.lemmas.Nat.{xor_comm, xor_lt, xor_shr, xor_mod, xor_block, pow_pos, shr_split}
use Rattle.std.proofs.lemmas.Nat.Bits.{bit_at_xor}

pub xor_left_comm : (a b c : ℕ) → bit_xor a (bit_xor b c) ≡ bit_xor b (bit_xor a c)
xor_left_comm a b c = sym (xor_assoc a b c) ∙ ap (λ (x : ℕ). bit_xor x c) (xor_comm a b) ∙ xor_assoc b a c

pub xor_cancel : (a b : ℕ) → bit_xor a (bit_xor a b) ≡ b
xor_cancel a b = sym (xor_assoc a a b) ∙ ap (λ (x : ℕ). bit_xor x b) (xor_self a)

pub ruleset xor_ac = (xor_assoc, xor_comm, xor_left_comm, xor_self, xor_cancel, xor_zero_l, xor_zero_r)

pub xor_swap : (a b c d : ℕ) → bit_xor (bit_xor a b) (bit_xor c d) ≡ bit_xor (bit_xor a c) (bit_xor b d)
xor_swap a b c d = simp xor_ac

pub xor_shl : (a b k : ℕ) → bit_xor a b * 2 ^ k ≡ bit_xor (a * 2 ^ k) (b * 2 ^ k)
xor_shl a b k =
    let e : bit_xor (a * 2 ^ k + 0) (b * 2 ^ k + 0) ≡ bit_xor a b * 2 ^ k + 0 =
    xor_block k a b 0 0 (pow_pos k) (pow_pos k) in
    sym (add-zero _) ∙ sym e ∙ ap₂ bit_xor (add-zero _) (add-zero _)

pub below_two : (c : ℕ) → c < 2 → (c ≡ 0) ⊎ (c ≡ 1)
below_two zero h = inl refl
below_two (suc zero) h = inr refl
below_two (suc (suc n)) h = inl (omega arith)

pub mod_two : (n : ℕ) → (n % 2 ≡ 0) ⊎ (n % 2 ≡ 1)
mod_two n = below_two (n % 2) (omega arith)

pub xor_times : (a b n : ℕ) → bit_xor a b * (n % 2) ≡ bit_xor (a * (n % 2)) (b * (n % 2))
xor_times a b n = elim (mod_two n) [
  | inl e ↦ rw e (mul-zero (bit_xor a b) ∙ sym (ap₂ bit_xor (mul-zero a) (mul-zero b)))
  | inr e ↦ rw e (mul-one (bit_xor a b) ∙ sym (ap₂ bit_xor (mul-one a) (mul-one b)))
]

-- a bit of a sum
pub times_xor : (a m n k : ℕ) → a * (bit_xor m n / 2 ^ k % 2) ≡ bit_xor (a * (m / 2 ^ k % 2)) (a * (n / 2 ^ k % 2))
times_xor a m n k =
    rw (bit_at_xor m n k) (sums a (m / 2 ^ k % 2) (n / 2 ^ k % 2) (mod_two (m / 2 ^ k)) (mod_two (n / 2 ^ k)))
  where
    sums : (a x y : ℕ) → (x ≡ 0) ⊎ (x ≡ 1) → (y ≡ 0) ⊎ (y ≡ 1) → a * ((x + y) % 2) ≡ bit_xor (a * x) (a * y)
    sums a x y (inl p) (inl q) = rw (p, q) (simp mul-zero)
    sums a x y (inl p) (inr q) = rw (p, q) (simp (mul-zero, mul-one))
    sums a x y (inr p) (inl q) = rw (p, q) (simp (mul-zero, mul-one, xor_zero_r))
    sums a x y (inr p) (inr q) = rw (p, q) (simp (mul-zero, mul-one, xor_self))

pub record IsAdditive (f : ℕ → ℕ) : Type 0 where
  pub at_xor : (a b : ℕ) → f (bit_xor a b) ≡ bit_xor (f a) (f b)

pub additive_zero : (f : ℕ → ℕ) → IsAdditive f → f 0 ≡ 0
additive_zero f h = h.at_xor 0 0 ∙ xor_self (f 0)

pub top_bit : (f : ℕ → ℕ) (k q r : ℕ) → IsAdditive f → r < 2 ^ k → f (q * 2 ^ k + r) ≡ bit_xor (f (q * 2 ^ k)) (f r)
top_bit f k q r h l =
    let e : bit_xor (q * 2 ^ k + 0) (0 * 2 ^ k + r) ≡ bit_xor q 0 * 2 ^ k + r = xor_block k q 0 0 r (pow_pos k) l in
    let e' : bit_xor (q * 2 ^ k) r ≡ q * 2 ^ k + r = ap₂ bit_xor (sym (add-zero (q * 2 ^ k))) (omega arith) ∙ e
    ∙ ap (λ (x : ℕ). x * 2 ^ k + r) (xor_zero_r q) in
    ap f (sym e') ∙ h.at_xor (q * 2 ^ k) r

-- two additive functions that agree at the powers of two below 2 ^ k agree below 2 ^ k
pub same_additive : (f g : ℕ → ℕ) → IsAdditive f → IsAdditive g → (k : ℕ) → ((i : ℕ) → i < k → f (2 ^ i) ≡ g (2 ^ i))
    → (a : ℕ) → a < 2 ^ k → f a ≡ g a
same_additive f g hf hg zero e a l =
    let z : a ≡ 0 = omega arith in rw z (additive_zero f hf ∙ sym (additive_zero g hg))
same_additive f g hf hg (suc k) e a l =
    let below : a < 2 ^ k * 2 = rw pow-suc at l in
    let q : a / 2 ^ k < 2 = (div-lt_iff_lt-mul (pow_pos k)).1 (omega (arith, mul_comm (2 ^ k) 2)) in
    let r : a % 2 ^ k < 2 ^ k = mod-lt a (pow_pos k) in
    let here : f (a / 2 ^ k * 2 ^ k) ≡ g (a / 2 ^ k * 2 ^ k) = elim (below_two (a / 2 ^ k) q) [
      | inl z ↦ rw (z, zero-mul) (additive_zero f hf ∙ sym (additive_zero g hg))
      | inr o ↦ rw (o, one-mul) (e k (omega arith))
    ] in
    let rest : f (a % 2 ^ k) ≡ g (a % 2 ^ k) = same_additive f g hf hg k (λ i h. e i (omega arith)) (a % 2 ^ k) r in
    ap f (sym (shr_split a k)) ∙ top_bit f k (a / 2 ^ k) (a % 2 ^ k) hf r ∙ ap₂ bit_xor here rest
    ∙ sym (top_bit g k (a / 2 ^ k) (a % 2 ^ k) hg r) ∙ ap g (shr_split a k)
