-- Slices of a list: their length, their elements, and a list of twelve bytes as three slices. For words of headers and
-- bytes of parts.
use Rattle.std.proofs.Common.{◌≡◌, ℕ, ◌+◌, ◌-◌, ◌<◌, ◌≤◌, List, ◌++◌, length, take, drop, get_or, slice_range, sym, ap}
use Rattle.std.proofs.Common.{◌∙◌, arith, length-take, length-drop, get_or-take, get_or-drop, append_assoc, take_all}
use Rattle.std.proofs.Common.{take-append-drop}
use Rattle.std.proofs.lemmas.List.{drop-drop, drop-take, take-take}

pub length-slice_range : (xs : List ℕ) (a n : ℕ) → a + n ≤ length xs → length (slice_range xs a (a + n)) ≡ n
length-slice_range xs a n h = omega (arith, length-take ((a + n) - a) (drop a xs), length-drop a xs)

pub get_or-slice_range : (xs : List ℕ) (a b i : ℕ) → i < b - a → get_or (slice_range xs a b) i 0 ≡ get_or xs (a + i) 0
get_or-slice_range xs a b i h = get_or-take (b - a) (drop a xs) i 0 h ∙ get_or-drop a xs i 0

-- twelve bytes are three times four
pub append-slice_range_thirds : (xs : List ℕ) → length xs ≡ 12
    → slice_range xs 0 4 ++ slice_range xs 4 8 ++ slice_range xs 8 12 ≡ xs
append-slice_range_thirds xs h =
    let last : slice_range xs 8 12 ≡ drop 4 (drop 4 xs) = ap (λ (l : List ℕ). take 4 l) (sym (drop-drop 4 4 xs))
    ∙ take_all 4 (drop 4 (drop 4 xs)) (omega (arith, length-drop 4 (drop 4 xs), length-drop 4 xs)) in
    append_assoc (take 4 xs) (take 4 (drop 4 xs)) (slice_range xs 8 12)
    ∙ ap (λ (l : List ℕ). take 4 xs ++ (take 4 (drop 4 xs) ++ l)) last
    ∙ ap (λ (l : List ℕ). take 4 xs ++ l) (take-append-drop 4 (drop 4 xs)) ∙ take-append-drop 4 xs

-- elements of a front
pub take-drop-take : {A : Type 0} (n k m : ℕ) (xs : List A) → k + n ≤ m
    → take n (drop k (take m xs)) ≡ take n (drop k xs)
take-drop-take n k m xs h =
    (let e : m ≡ k + (m - k) = omega arith in ap (λ j. take n (drop k (take j xs))) e)
    ∙ ap (take n) (drop-take k (m - k) xs) ∙ take-take n (m - k) (drop k xs) (omega arith)

pub slice_range-take : (n a b : ℕ) (xs : List ℕ) → a ≤ b → b ≤ n → slice_range (take n xs) a b ≡ slice_range xs a b
slice_range-take n a b xs h k = take-drop-take (b - a) a n xs (omega arith)
