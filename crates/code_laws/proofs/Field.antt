-- the laws of the field
use Rattle.std.proofs.Common.{◌≡◌, ℕ, zero, suc, ◌+◌, ◌*◌, ◌/◌, ◌%◌, ◌^◌, ◌<◌, bit_xor, refl, sym, ap, ◌∙◌, ap₂, arith}
use Rattle.std.proofs.Common.{Bool, true, ◌&&◌, eqb}
use Rattle.std.proofs.lemmas.Bool.Decides.{Decides-eqb, Decides-below_and}
use Rattle.std.proofs.lemmas.Nat.{xor_mod}
use Rattle.code_spec.specs.Field.{gf_mul, carryless, reduced}
use Rattle.code_laws.proofs.Xor.{IsAdditive, same_additive, xor_swap, xor_times, times_xor, xor_shl}

-- a test of each number below n
abbrev pub below : (ℕ → Bool) → ℕ → Bool
below p zero = true
below p (suc n) = p n && below p n

carryless_left : (n a a' b : ℕ) → carryless n (bit_xor a a') b ≡ bit_xor (carryless n a b) (carryless n a' b)
carryless_left zero a a' b = refl
carryless_left (suc n) a a' b =
    ap₂ bit_xor (carryless_left n a a' b) (ap (λ (x : ℕ). x * (b / 2 ^ n % 2)) (xor_shl a a' n)
    ∙ xor_times (a * 2 ^ n) (a' * 2 ^ n) (b / 2 ^ n))
    ∙ xor_swap (carryless n a b) (carryless n a' b) (a * 2 ^ n * (b / 2 ^ n % 2)) (a' * 2 ^ n * (b / 2 ^ n % 2))

carryless_right : (n a b b' : ℕ) → carryless n a (bit_xor b b') ≡ bit_xor (carryless n a b) (carryless n a b')
carryless_right zero a b b' = refl
carryless_right (suc n) a b b' =
    ap₂ bit_xor (carryless_right n a b b') (times_xor (a * 2 ^ n) b b' n)
    ∙ xor_swap (carryless n a b) (carryless n a b') (a * 2 ^ n * (b / 2 ^ n % 2)) (a * 2 ^ n * (b' / 2 ^ n % 2))

reduced_xor : (n p q : ℕ) → reduced n (bit_xor p q) ≡ bit_xor (reduced n p) (reduced n q)
reduced_xor zero p q = refl
reduced_xor (suc n) p q =
    ap (λ (x : ℕ). reduced n (bit_xor (bit_xor p q) x)) (times_xor (285 * 2 ^ n) p q (8 + n))
    ∙ ap (reduced n) (xor_swap p q (285 * 2 ^ n * (p / 2 ^ (8 + n) % 2)) (285 * 2 ^ n * (q / 2 ^ (8 + n) % 2)))
    ∙ reduced_xor n (bit_xor p (285 * 2 ^ n * (p / 2 ^ (8 + n) % 2))) (bit_xor q (285 * 2 ^ n * (q / 2 ^ (8 + n) % 2)))

pub mul_add : (a b c : ℕ) → gf_mul a (bit_xor b c) ≡ bit_xor (gf_mul a b) (gf_mul a c)
unfolding gf_mul
mul_add a b c =
    ap (λ (x : ℕ). reduced 7 (carryless 8 (a % 256) x)) (xor_mod b c 8)
    ∙ ap (reduced 7) (carryless_right 8 (a % 256) (b % 256) (c % 256))
    ∙ reduced_xor 7 (carryless 8 (a % 256) (b % 256)) (carryless 8 (a % 256) (c % 256))

pub add_mul : (a b c : ℕ) → gf_mul (bit_xor a b) c ≡ bit_xor (gf_mul a c) (gf_mul b c)
unfolding gf_mul
add_mul a b c =
    ap (λ (x : ℕ). reduced 7 (carryless 8 x (c % 256))) (xor_mod a b 8)
    ∙ ap (reduced 7) (carryless_left 8 (a % 256) (b % 256) (c % 256))
    ∙ reduced_xor 7 (carryless 8 (a % 256) (c % 256)) (carryless 8 (b % 256) (c % 256))

pub additive_l : (c : ℕ) → IsAdditive (λ x. gf_mul x c)
additive_l c = record { at_xor = λ a b. add_mul a b c }

pub additive_r : (c : ℕ) → IsAdditive (λ x. gf_mul c x)
additive_r c = record { at_xor = mul_add c }

-- only the low byte counts
pub mul_low_l : (a b : ℕ) → gf_mul (a % 256) b ≡ gf_mul a b
unfolding gf_mul
mul_low_l a b = ap (λ (x : ℕ). reduced 7 (carryless 8 x (b % 256))) (omega arith)

pub mul_low_r : (a b : ℕ) → gf_mul a (b % 256) ≡ gf_mul a b
unfolding gf_mul
mul_low_r a b = ap (λ (x : ℕ). reduced 7 (carryless 8 (a % 256) x)) (omega arith)

byte : (a : ℕ) → a % 256 < 2 ^ 8
byte a = omega arith

-- what a test below n tells
pub checked : (p : ℕ → Bool) (n : ℕ) → below p n ≡ true → (i : ℕ) → i < n → p i ≡ true
checked p n e = (Decides-below_and p (λ i. p i ≡ true) (below p) (λ i. ((λ h. h), (λ h. h))) refl (λ _. refl) n).0 e

comm_test : below (λ i. below (λ j. eqb (gf_mul (2 ^ i) (2 ^ j)) (gf_mul (2 ^ j) (2 ^ i))) 8) 8 ≡ true
unfolding gf_mul
comm_test = refl

comm_powers : (i j : ℕ) → i < 8 → j < 8 → gf_mul (2 ^ i) (2 ^ j) ≡ gf_mul (2 ^ j) (2 ^ i)
comm_powers i j hi hj =
    (Decides-eqb (gf_mul (2 ^ i) (2 ^ j)) (gf_mul (2 ^ j) (2 ^ i))).0
    (checked (λ y. eqb (gf_mul (2 ^ i) (2 ^ y)) (gf_mul (2 ^ y) (2 ^ i))) 8
    (checked (λ x. below (λ y. eqb (gf_mul (2 ^ x) (2 ^ y)) (gf_mul (2 ^ y) (2 ^ x))) 8) 8 comm_test i hi) j hj)

pub mul_comm : (a b : ℕ) → gf_mul a b ≡ gf_mul b a
mul_comm a b =
    let at_power : (i : ℕ) → i < 8 → gf_mul (2 ^ i) (b % 256) ≡ gf_mul (b % 256) (2 ^ i) =
    λ i h. same_additive (λ x. gf_mul (2 ^ i) x) (λ x. gf_mul x (2 ^ i)) (additive_r (2 ^ i)) (additive_l (2 ^ i)) 8
    (λ j l. comm_powers i j h l) (b % 256) (byte b) in
    let all : gf_mul (a % 256) (b % 256) ≡ gf_mul (b % 256) (a % 256) =
    same_additive (λ x. gf_mul x (b % 256)) (λ x. gf_mul (b % 256) x) (additive_l (b % 256)) (additive_r (b % 256))
    8 at_power (a % 256) (byte a) in
    sym (mul_low_l a b) ∙ sym (mul_low_r (a % 256) b) ∙ all ∙ mul_low_l b (a % 256) ∙ mul_low_r b a

assoc_test : below (λ i. below (λ j. below (λ k. eqb (gf_mul (gf_mul (2 ^ i) (2 ^ j)) (2 ^ k))
    (gf_mul (2 ^ i) (gf_mul (2 ^ j) (2 ^ k)))) 8) 8) 8 ≡ true
unfolding gf_mul
assoc_test = refl

assoc_powers : (i j k : ℕ) → i < 8 → j < 8 → k < 8 → gf_mul (gf_mul (2 ^ i) (2 ^ j)) (2 ^ k)
    ≡ gf_mul (2 ^ i) (gf_mul (2 ^ j) (2 ^ k))
assoc_powers i j k hi hj hk =
    (Decides-eqb (gf_mul (gf_mul (2 ^ i) (2 ^ j)) (2 ^ k)) (gf_mul (2 ^ i) (gf_mul (2 ^ j) (2 ^ k)))).0
    (checked (λ z. eqb (gf_mul (gf_mul (2 ^ i) (2 ^ j)) (2 ^ z)) (gf_mul (2 ^ i) (gf_mul (2 ^ j) (2 ^ z)))) 8
    (checked (λ y. below (λ z. eqb (gf_mul (gf_mul (2 ^ i) (2 ^ y)) (2 ^ z))
    (gf_mul (2 ^ i) (gf_mul (2 ^ y) (2 ^ z)))) 8) 8
    (checked (λ x. below (λ y. below (λ z. eqb (gf_mul (gf_mul (2 ^ x) (2 ^ y)) (2 ^ z))
    (gf_mul (2 ^ x) (gf_mul (2 ^ y) (2 ^ z)))) 8) 8) 8 assoc_test i hi) j hj) k hk)

pub composed : (f g : ℕ → ℕ) → IsAdditive f → IsAdditive g → IsAdditive (λ x. f (g x))
composed f g hf hg = record { at_xor = λ a b. ap f (hg.at_xor a b) ∙ hf.at_xor (g a) (g b) }

low : (f : ℕ → ℕ) (g : ℕ → ℕ) → ((x : ℕ) → f (x % 256) ≡ f x) → ((x : ℕ) → g (x % 256) ≡ g x) → (a : ℕ)
    → f (a % 256) ≡ g (a % 256) → f a ≡ g a
low f g hf hg a e = sym (hf a) ∙ e ∙ hg a

pub mul_assoc : (a b c : ℕ) → gf_mul (gf_mul a b) c ≡ gf_mul a (gf_mul b c)
mul_assoc a b c =
    low (λ x. gf_mul (gf_mul x b) c) (λ x. gf_mul x (gf_mul b c)) (λ x. ap (λ (y : ℕ). gf_mul y c) (mul_low_l x b))
    (λ x. mul_low_l x (gf_mul b c)) a
    (same_additive (λ x. gf_mul (gf_mul x b) c) (λ x. gf_mul x (gf_mul b c))
    (composed (λ x. gf_mul x c) (λ x. gf_mul x b) (additive_l c) (additive_l b)) (additive_l (gf_mul b c)) 8
    (λ i hi. low (λ x. gf_mul (gf_mul (2 ^ i) x) c) (λ x. gf_mul (2 ^ i) (gf_mul x c))
    (λ x. ap (λ (y : ℕ). gf_mul y c) (mul_low_r (2 ^ i) x)) (λ x. ap (gf_mul (2 ^ i)) (mul_low_l x c)) b
    (same_additive (λ x. gf_mul (gf_mul (2 ^ i) x) c) (λ x. gf_mul (2 ^ i) (gf_mul x c))
    (composed (λ x. gf_mul x c) (gf_mul (2 ^ i)) (additive_l c) (additive_r (2 ^ i)))
    (composed (gf_mul (2 ^ i)) (λ x. gf_mul x c) (additive_r (2 ^ i)) (additive_l c)) 8
    (λ j hj. low (λ x. gf_mul (gf_mul (2 ^ i) (2 ^ j)) x) (λ x. gf_mul (2 ^ i) (gf_mul (2 ^ j) x))
    (λ x. mul_low_r (gf_mul (2 ^ i) (2 ^ j)) x) (λ x. ap (gf_mul (2 ^ i)) (mul_low_r (2 ^ j) x)) c
    (same_additive (λ x. gf_mul (gf_mul (2 ^ i) (2 ^ j)) x) (λ x. gf_mul (2 ^ i) (gf_mul (2 ^ j) x))
    (additive_r (gf_mul (2 ^ i) (2 ^ j))) (composed (gf_mul (2 ^ i)) (gf_mul (2 ^ j)) (additive_r (2 ^ i))
    (additive_r (2 ^ j))) 8
    (λ k hk. assoc_powers i j k hi hj hk) (c % 256) (byte c)))
    (b % 256) (byte b)))
    (a % 256) (byte a))

one_test : below (λ i. eqb (gf_mul (2 ^ i) 1) (2 ^ i)) 8 ≡ true
unfolding gf_mul
one_test = refl

identity : IsAdditive (λ x. x)
identity = record { at_xor = λ a b. refl }

pub mul_one : (a : ℕ) → a < 256 → gf_mul a 1 ≡ a
mul_one a h = same_additive (λ x. gf_mul x 1) (λ x. x) (additive_l 1) identity 8
    (λ i l. (Decides-eqb (gf_mul (2 ^ i) 1) (2 ^ i)).0 (checked (λ x. eqb (gf_mul (2 ^ x) 1) (2 ^ x)) 8 one_test i l))
    a h
