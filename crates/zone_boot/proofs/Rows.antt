-- Numbers in a row, rounding up, and pieces of lists
use Rattle.std.proofs.Common.{◌≡◌, ℕ, zero, suc, ◌+◌, ◌-◌, ◌≤◌, min, List, [], ◌∷◌, ◌++◌, length, take, drop, sym, ap}
use Rattle.std.proofs.Common.{ap₂, ◌∙◌, arith, length-take, length-append, append_assoc}
use borrow.Rule.Slice.PartMut.{put_mid}
use Rattle.std.specs.List.{range_with_len}
use Rattle.std.proofs.Math.Seq.{drop-nil}
use Rattle.std.proofs.lemmas.List.{take_all, take-append-drop, append-nil, drop_all, drop-drop}
use Rattle.list_laws.proofs.Elements.{take-append}

-- ---- numbers in a row

pub range-drop : (k a n : ℕ) → drop k (range_with_len a n) ≡ range_with_len (a + k) (n - k)
range-drop zero a n = ap₂ (λ (b m : ℕ). range_with_len b m) (let e : a ≡ a + 0 = omega arith in e)
    (let e : n ≡ n - 0 = omega arith in e)
range-drop (suc k) a zero = drop-nil (suc k)
    ∙ ap (λ (m : ℕ). range_with_len (a + suc k) m) (let e : 0 ≡ 0 - suc k = omega arith in e)
range-drop (suc k) a (suc n) =
    range-drop k (a + 1) n ∙ ap₂ (λ (b m : ℕ). range_with_len b m) (let e : a + 1 + k ≡ a + suc k = omega arith in e)
    (let e : n - k ≡ suc n - suc k = omega arith in e)

pub range-take : (k a n : ℕ) → take k (range_with_len a n) ≡ range_with_len a (min k n)
range-take zero a n = ap (λ (m : ℕ). range_with_len a m) (let e : 0 ≡ min 0 n = omega arith in e)
range-take (suc k) a zero = ap (λ (m : ℕ). range_with_len a m) (let e : 0 ≡ min (suc k) 0 = omega arith in e)
range-take (suc k) a (suc n) =
    ap (λ (l : List ℕ). a ∷ l) (range-take k (a + 1) n)
    ∙ ap (λ (m : ℕ). range_with_len a m) (let e : suc (min k n) ≡ min (suc k) (suc n) = omega arith in e)

-- ---- rounding up

-- ---- pieces of lists
module _ {A : Type 0} where
  pub drop-append : (n : ℕ) (xs ys : List A) → drop n (xs ++ ys) ≡ drop n xs ++ drop (n - length xs) ys
  drop-append n [] ys = ap (λ (m : ℕ). drop m ys) (let e : n ≡ n - 0 = omega arith in e)
      ∙ ap (λ l. l ++ drop (n - 0) ys) (sym (drop-nil n))
  drop-append zero (x ∷ xs) ys =
      ap (λ (m : ℕ). x ∷ xs ++ drop m ys) (let e : 0 ≡ 0 - suc (length xs) = omega arith in e)
  drop-append (suc n) (x ∷ xs) ys = drop-append n xs ys
      ∙ ap (λ (m : ℕ). drop n xs ++ drop m ys) (let e : n - length xs ≡ suc n - suc (length xs) = omega arith in e)

-- what a write to a part of a list leaves
pub put-is : (a n : ℕ) (xs ys : List ℕ) → put_mid a (a + n - a) xs ys ≡ take a xs ++ ys ++ drop (a + n) xs
put-is a n xs ys =
    ap (λ (k : ℕ). take a xs ++ (ys ++ drop k (drop a xs))) (let e : a + n - a ≡ n = omega arith in e)
    ∙ ap (λ (l : List ℕ). take a xs ++ (ys ++ l)) (drop-drop n a xs) ∙ sym (append_assoc (take a xs) ys _)

pub put-none : (a : ℕ) (xs ys : List ℕ) → ys ≡ [] → xs ≡ take a xs ++ ys ++ drop (a + 0) xs
put-none a xs ys e =
    sym (ap₂ (λ (l : List ℕ) (k : ℕ). take a xs ++ l ++ drop k xs) e (let z : a + 0 ≡ a = omega arith in z)
    ∙ ap (λ (l : List ℕ). l ++ drop a xs) (append-nil (take a xs)) ∙ take-append-drop a xs)

-- two pieces written one behind the other
pub put-then : (a n m p q : ℕ) (xs xs1 ys zs : List ℕ) → p ≡ a + n → q ≡ a + n + m → a + n + m ≤ length xs
    → length ys ≡ n → xs1 ≡ take a xs ++ ys ++ drop (a + n) xs
    → take p xs1 ++ zs ++ drop q xs1 ≡ take a xs ++ (ys ++ zs) ++ drop (a + (n + m)) xs
put-then a n m p q xs xs1 ys zs ep eq room long e =
    let front : List ℕ = take a xs ++ ys in
    let l : length front ≡ a + n = omega (arith, length-append (take a xs) ys, length-take a xs, long, room) in
    let one : take (a + n) xs1 ≡ front =
    ap (λ (u : List ℕ). take (a + n) u) e ∙ take-append (a + n) front (drop (a + n) xs)
    ∙ ap₂ (λ (u v : List ℕ). u ++ v) (take_all (a + n) front (omega (arith, l)))
    (ap (λ (k : ℕ). take k (drop (a + n) xs)) (let z : a + n - length front ≡ 0 = omega (arith, l) in z))
    ∙ append-nil front in
    let two : drop (a + n + m) xs1 ≡ drop (a + (n + m)) xs =
    ap (λ (u : List ℕ). drop (a + n + m) u) e ∙ drop-append (a + n + m) front (drop (a + n) xs)
    ∙ ap₂ (λ (u v : List ℕ). u ++ v) (drop_all (a + n + m) front (omega (arith, l)))
    (ap (λ (k : ℕ). drop k (drop (a + n) xs)) (let z : a + n + m - length front ≡ m = omega (arith, l) in z))
    ∙ drop-drop m (a + n) xs
    ∙ ap (λ (k : ℕ). drop k xs) (let z : a + n + m ≡ a + (n + m) = omega arith in z) in
    ap₂ (λ (k l : ℕ). take k xs1 ++ zs ++ drop l xs1) ep eq
    ∙ ap₂ (λ (u v : List ℕ). u ++ zs ++ v) one two
    ∙ ap (λ (u : List ℕ). u ++ drop (a + (n + m)) xs) (append_assoc (take a xs) ys zs)
