-- A word is what its bytes say, in either order of bytes
use Rattle.std.proofs.Common.{◌≡◌, ℕ, zero, suc, ◌+◌, ◌*◌, ◌/◌, ◌%◌, ◌^◌, ◌<◌, List, [], ◌∷◌, length, get_or, refl, ap}
use Rattle.std.proofs.Common.{◌∙◌, arith, w32}
use Rattle.std.proofs.lemmas.Nat.{be_bytes_4, le_bytes_4, from_le_bytes-to_le_bytes_4}
use Rattle.std.specs.Int.{to_be_bytes, to_le_bytes, from_be_bytes, from_le_bytes, swap_bytes}
use Rattle.zone_spec.specs.declared.params.ByteOrder.{ByteOrder}
use Rattle.zone_spec.specs.declared.params.ByteOrder.TheVariants.{Little, Big}
use Rattle.zone_spec.specs.WordBytes.{turned, word_bytes, word_of}

each-small : (a b c d : ℕ) → a < 256 → b < 256 → c < 256 → d < 256 → (i : ℕ)
    → get_or (a ∷ b ∷ c ∷ d ∷ []) i 0 < 256
each-small a b c d ha hb hc hd zero = ha
each-small a b c d ha hb hc hd (suc zero) = hb
each-small a b c d ha hb hc hd (suc (suc zero)) = hc
each-small a b c d ha hb hc hd (suc (suc (suc zero))) = hd
each-small a b c d ha hb hc hd (suc (suc (suc (suc i)))) = omega arith

-- the number with four bytes in the other order
pub turned-sum : (a b c d m : ℕ) → a < 256 → b < 256 → c < 256 → d < 256
    → m ≡ a * 16777216 + b * 65536 + c * 256 + d
    → swap_bytes w32 m ≡ d * 16777216 + c * 65536 + b * 256 + a
turned-sum a b c d m ha hb hc hd e =
    let is : to_be_bytes w32 m ≡ a ∷ b ∷ c ∷ d ∷ [] =
    be_bytes_4 (a ∷ b ∷ c ∷ d ∷ []) m refl (each-small a b c d ha hb hc hd) e in
    let e0 : m % 256 ≡ d = ap (λ xs. get_or xs 3 0) is in
    let e1 : m / 256 % 256 ≡ c = ap (λ xs. get_or xs 2 0) is in
    let e2 : m / 65536 % 256 ≡ b = ap (λ xs. get_or xs 1 0) is in
    let e3 : m / 16777216 % 256 ≡ a = ap (λ xs. get_or xs 0 0) is in
    omega (arith, e0, e1, e2, e3)

-- a word that fits its four bytes fits them turned
pub turned_small : (order : ByteOrder) (n : ℕ) → n < 2 ^ 32 → turned order n < 2 ^ 32
turned_small Little n h = h
turned_small Big n h = omega arith

-- turned twice, it is the word again
pub turned_twice : (order : ByteOrder) (n : ℕ) → n < 2 ^ 32 → turned order (turned order n) ≡ n
turned_twice Little n h = refl
turned_twice Big n h =
    turned-sum (n % 256) (n / 256 % 256) (n / 65536 % 256) (n / 16777216 % 256) (swap_bytes w32 n) (omega arith)
    (omega arith) (omega arith) (omega arith) (omega arith)
    ∙ omega (arith, from_le_bytes-to_le_bytes_4 n h)

-- what was stored is read
pub word_of-word_bytes : (order : ByteOrder) (n : ℕ) → n < 2 ^ 32 → word_of order (word_bytes order n) ≡ n
word_of-word_bytes order n h =
    ap (turned order) (from_le_bytes-to_le_bytes_4 (turned order n) (turned_small order n h)) ∙ turned_twice order n h

-- four bytes make a number that fits them
pub word_of-small : (order : ByteOrder) (xs : List ℕ) → ((i : ℕ) → get_or xs i 0 < 256) → word_of order xs < 2 ^ 32
word_of-small order xs h =
    let a = h 0 in let b = h 1 in let c = h 2 in let d = h 3 in
    turned_small order (from_le_bytes w32 xs) (omega (arith, a, b, c, d))

-- what was read is stored
pub word_bytes-word_of : (order : ByteOrder) (xs : List ℕ) → length xs ≡ 4 → ((i : ℕ) → get_or xs i 0 < 256)
    → word_bytes order (word_of order xs) ≡ xs
word_bytes-word_of order xs l h =
    let a = h 0 in let b = h 1 in let c = h 2 in let d = h 3 in
    ap (to_le_bytes w32) (turned_twice order (from_le_bytes w32 xs) (omega (arith, a, b, c, d)))
    ∙ le_bytes_4 xs (from_le_bytes w32 xs) l h refl

-- the word 0 is four bytes 0 in either order
pub turned_zero : (order : ByteOrder) → turned order 0 ≡ 0
turned_zero Little = refl
turned_zero Big = refl

-- big-endian bytes
pub big_bytes : (n : ℕ) → word_bytes Big n ≡ to_be_bytes w32 n
big_bytes n = le_bytes_4 (to_be_bytes w32 n) (swap_bytes w32 n) refl
    (each-small (n / 16777216 % 256) (n / 65536 % 256) (n / 256 % 256) (n % 256) (omega arith) (omega arith)
    (omega arith) (omega arith)) (omega arith)

pub big_word : (xs : List ℕ) → ((i : ℕ) → get_or xs i 0 < 256) → word_of Big xs ≡ from_be_bytes w32 xs
big_word xs h =
    turned-sum (get_or xs 3 0) (get_or xs 2 0) (get_or xs 1 0) (get_or xs 0 0) (from_le_bytes w32 xs) (h 3) (h 2) (h 1)
    (h 0) (omega arith)
    ∙ omega arith
