-- Numbers in a row: cut in two, summed, tested, and as the places of a list. For the order of stores and of parts.
use Rattle.std.proofs.Common.{◌≡◌, ℕ, zero, suc, ◌+◌, ◌-◌, ◌<◌, ◌≤◌, Bool, true, List, [], ◌∷◌, ◌++◌, length, take, map}
use Rattle.std.proofs.Common.{get_or, refl, ap, ap₂, ◌∙◌, arith}
use Rattle.std.specs.List.{range_with_len, sum_by, list_all}
use Rattle.std.proofs.lemmas.Bool.{and_parts}
use Rattle.std.proofs.lemmas.List.Sums.{sum_by-append}

pub range_with_len-add : (a n k : ℕ) → range_with_len a (n + k) ≡ range_with_len a n ++ range_with_len (a + n) k
range_with_len-add a zero k = ap (λ (m : ℕ). range_with_len a m) (let e : 0 + k ≡ k = omega arith in e)
    ∙ ap (λ (m : ℕ). range_with_len m k) (let e : a ≡ a + 0 = omega arith in e)
range_with_len-add a (suc n) k =
    ap (λ (m : ℕ). range_with_len a m) (let e : suc n + k ≡ suc (n + k) = omega arith in e)
    ∙ ap (λ (l : List ℕ). a ∷ l) (range_with_len-add (a + 1) n k)
    ∙ ap (λ (m : ℕ). a ∷ (range_with_len (a + 1) n ++ range_with_len m k))
    (let e : a + 1 + n ≡ a + suc n = omega arith in e)

-- the first of some numbers
pub range_with_len-first : (a b : ℕ) → a < b → range_with_len a (b - a) ≡ a ∷ range_with_len (a + 1) (b - (a + 1))
range_with_len-first a b lt = let e : b - a ≡ suc (b - (a + 1)) = omega arith in ap (λ (n : ℕ). range_with_len a n) e

pub sum_by-range_more : (f : ℕ → ℕ) (n : ℕ) → sum_by f (range_with_len 0 (n + 1)) ≡ sum_by f (range_with_len 0 n) + f n
sum_by-range_more f n =
    ap (λ (l : List ℕ). sum_by f l) (range_with_len-add 0 n 1
    ∙ ap (λ (m : ℕ). range_with_len 0 n ++ range_with_len m 1) (let e : 0 + n ≡ n = omega arith in e))
    ∙ sum_by-append f (range_with_len 0 n) (n ∷ []) ∙ omega arith

-- a list that a function makes of its places
pub map-range_from_places : (f : ℕ → ℕ) (a k : ℕ) (xs : List ℕ) → k ≤ length xs
    → ((j : ℕ) → j < k → f (a + j) ≡ get_or xs j 0) → map f (range_with_len a k) ≡ take k xs
map-range_from_places f a zero xs l h = refl
map-range_from_places f a (suc k) [] l h = absurd (omega arith)
map-range_from_places f a (suc k) (x ∷ xs) l h =
    ap₂ (λ (y : ℕ) (ys : List ℕ). y ∷ ys) (ap f (let e : a ≡ a + 0 = omega arith in e) ∙ h 0 (omega arith))
    (map-range_from_places f (a + 1) k xs (omega arith)
    (λ j m. ap f (let e : a + 1 + j ≡ a + suc j = omega arith in e) ∙ h (suc j) (omega arith)))

-- a test that holds of all numbers of a range
pub list_all-range_at : (p : ℕ → Bool) (a n : ℕ) → list_all p (range_with_len a n) ≡ true → (j : ℕ) → j < n
    → p (a + j) ≡ true
list_all-range_at p a zero e j h = absurd (omega (arith, h))
list_all-range_at p a (suc n) e zero h =
    ap p (let s : a + 0 ≡ a = omega arith in s) ∙ (and_parts (p a) (list_all p (range_with_len (a + 1) n)) e).0
list_all-range_at p a (suc n) e (suc j) h =
    ap p (let s : a + suc j ≡ a + 1 + j = omega arith in s)
    ∙ list_all-range_at p (a + 1) n (and_parts (p a) (list_all p (range_with_len (a + 1) n)) e).1 j (omega (arith, h))
