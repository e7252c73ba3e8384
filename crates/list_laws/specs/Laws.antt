-- What the laws of lists say, in the words of the standard library
use Rattle.std.specs.Prelude.{ℕ, Bool, true, ◌≡◌, ◌+◌, ◌-◌, ◌/◌, ◌≤◌, ◌<◌, List, ◌++◌, length, take, replicate}
use Rattle.std.specs.Prelude.{slice_get, slice_index, slice_range, Some}
use Rattle.std.specs.Int.{div_ceil}
use Rattle.std.specs.List.{AllByRecursion, range_with_len, zip}

-- a front of two lists end to end is a front of each
abbrev pub FrontOfTwo : Type 0
FrontOfTwo = (n : ℕ) (xs ys : List ℕ) → take n (xs ++ ys) ≡ take n xs ++ take (n - length xs) ys

-- a list with zeros at all its places is a run of zeros
abbrev pub ZerosAreARun : Type 0
ZerosAreARun = (xs : List ℕ) → ((k : ℕ) → k < length xs → slice_index xs k ≡ 0) → xs ≡ replicate (length xs) 0

-- what a test tells of all elements of two lists it tells of all of both
abbrev pub AllOfTwo : Type 0
AllOfTwo = (p : ℕ → Bool) (xs ys : List ℕ) → AllByRecursion (λ x. p x ≡ true) xs → AllByRecursion (λ x. p x ≡ true) ys
    → AllByRecursion (λ x. p x ≡ true) (xs ++ ys)

-- n + k numbers in a row are n and then k
abbrev pub RangesEndToEnd : Type 0
RangesEndToEnd = (a n k : ℕ) → range_with_len a (n + k) ≡ range_with_len a n ++ range_with_len (a + n) k

-- a slice within a list has its length, and its bytes are those of the list
abbrev pub SliceWithin : Type 0
SliceWithin = (xs : List ℕ) (a n : ℕ) → a + n ≤ length xs
    → (length (slice_range xs a (a + n)) ≡ n)
    × ((i : ℕ) → i < n → slice_index (slice_range xs a (a + n)) i ≡ slice_index xs (a + i))

-- a pair at a place of two lists side by side is the element of each there
abbrev pub PairsBySide : Type 0
PairsBySide = (xs ys : List ℕ) (i : ℕ) (p : ℕ × ℕ) → slice_get (zip xs ys) i ≡ Some p
    → (slice_get xs i ≡ Some p.0) × (slice_get ys i ≡ Some p.1)

-- rounding up is a division with the divisor less one added
abbrev pub RoundedUp : Type 0
RoundedUp = (x k : ℕ) → 0 < k → div_ceil x k ≡ (x + k - 1) / k
