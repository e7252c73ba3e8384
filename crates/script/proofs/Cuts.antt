-- A list that is cut at each byte that is a mark
use Rattle.std.proofs.Common.{◌≡◌, ℕ, ◌+◌, ◌<◌, ◌==◌, Bool, false, List, [], ◌∷◌, ◌++◌, length, length-append, take, drop, get_or, sym, ap}
use Rattle.std.proofs.Common.{◌∙◌, arith, inl, inr}
use Rattle.std.specs.List.{slice_split, position_or_len}
use Rattle.std.proofs.lemmas.List.{get_or_append_left, take-append-le, drop-append-le}
use Rattle.std.proofs.lemmas.List.Splits.{slice_split_first, slice_split_none, length-slice_split}
use Rattle.std.proofs.lemmas.List.Elements.{All-from_get_or}
use Rattle.std.proofs.lemmas.List.Sums.{fails_before_first, passes_at_first}
use Rattle.std.proofs.lemmas.Bool.{cases_order, false_from_ne_true}
use Rattle.memchr.specs.Find.{Nowhere, NoneBefore, Passes, is_byte}

-- the first place of a mark is where the first part ends
first_place : (c : ℕ) (xs : List ℕ) (k : ℕ) → NoneBefore (Passes (is_byte c) xs) 0 (length xs) k
    → Passes (is_byte c) xs k → position_or_len (λ b. b == c) xs ≡ k
first_place c xs k h is =
    let p : ℕ → Bool = λ b. b == c in
    let inside = h.high in
    elim (cases_order (position_or_len p xs) k) [
      | inl same ↦ same
      | inr (inl low) ↦ absurd (h.before (position_or_len p xs) (omega arith) low
          (passes_at_first p xs 0 (omega (arith, low, inside))))
      | inr (inr high) ↦ cc (sym is ∙ fails_before_first p xs k 0 high)
    ]

-- where a mark stands first at k, the bytes before it are the first part
pub cut_at : (c : ℕ) (xs : List ℕ) (k : ℕ) → NoneBefore (Passes (is_byte c) xs) 0 (length xs) k
    → Passes (is_byte c) xs k
    → slice_split (λ b. b == c) xs ≡ take k xs ∷ slice_split (λ b. b == c) (drop (k + 1) xs)
cut_at c xs k h is =
    let p : ℕ → Bool = λ b. b == c in
    let inside = h.high in
    let e : position_or_len p xs ≡ k = first_place c xs k h is in
    slice_split_first p xs 0 (omega (arith, e, inside))
    ∙ ap (λ (n : ℕ). take n xs ∷ slice_split p (drop (n + 1) xs)) e

-- and so whatever stands behind
pub cut_further : (c : ℕ) (xs more : List ℕ) (k : ℕ) → NoneBefore (Passes (is_byte c) xs) 0 (length xs) k
    → Passes (is_byte c) xs k
    → slice_split (λ b. b == c) (xs ++ more) ≡ take k xs ∷ slice_split (λ b. b == c) (drop (k + 1) xs ++ more)
cut_further c xs more k h is =
    let inside = h.high in
    let same : (j : ℕ) → j < length xs → get_or (xs ++ more) j 0 ≡ get_or xs j 0 =
    λ j lt. get_or_append_left xs more 0 j lt in
    let first : NoneBefore (Passes (is_byte c) (xs ++ more)) 0 (length (xs ++ more)) k = record {
      low = h.low;
      high = omega (arith, inside, length-append xs more);
      before = λ j low high passes. h.before j low high
          (ap (is_byte c) (sym (same j (omega (arith, high, inside)))) ∙ passes);
    } in
    cut_at c (xs ++ more) k first (ap (is_byte c) (same k inside) ∙ is)
    ∙ ap (λ (ys : List ℕ). ys ∷ slice_split (λ b. b == c) (drop (k + 1) (xs ++ more)))
    (take-append-le k xs more (omega (arith, inside)))
    ∙ ap (λ (ys : List ℕ). take k xs ∷ slice_split (λ b. b == c) ys)
    (drop-append-le (k + 1) xs more (omega (arith, inside)))

-- and where none stands, the list is the one part
pub cut_nowhere : (c : ℕ) (xs : List ℕ) → Nowhere (Passes (is_byte c) xs) 0 (length xs)
    → slice_split (λ b. b == c) xs ≡ xs ∷ []
cut_nowhere c xs h =
    slice_split_none (λ b. b == c) xs (All-from_get_or (λ x. (x == c) ≡ false) xs 0
    (λ k below. false_from_ne_true (get_or xs k 0 == c) (h k (omega arith) below)))

-- there is always a part
pub some_part : (p : ℕ → Bool) (xs : List ℕ) → 0 < length (slice_split p xs)
some_part p xs = let e = length-slice_split p xs in omega (arith, e)
