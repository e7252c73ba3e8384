-- The longest common prefix of two lists, in pieces
use Rattle.std.proofs.Common.{◌≡◌, ℕ, suc, ◌+◌, ◌<◌, ◌≤◌, Bool, true, false, cond, nat_eq, List, [], ◌∷◌, ◌++◌, length}
use Rattle.std.proofs.Common.{drop, refl, ap, ◌∙◌, arith}
use Rattle.std.specs.List.{common_prefix_len}
use Rattle.std.proofs.lemmas.Bool.Decides.{nat_tests}

abbrev common : List ℕ → List ℕ → ℕ
common xs ys = common_prefix_len nat_eq xs ys

pub none_right : (xs : List ℕ) → common xs [] ≡ 0
none_right [] = refl
none_right (x ∷ xs) = refl

-- a list that differs within its front differs there whatever follows
pub common_short : (xs ys zs : List ℕ) → common xs zs < length xs → common (xs ++ ys) zs ≡ common xs zs
common_short [] ys zs h = absurd (omega (arith, h))
common_short (x ∷ xs) ys [] h = refl
common_short (x ∷ xs) ys (z ∷ zs) h = by (nat_eq x z) h (λ k. common_short xs ys zs k)
  where
    by : (b : Bool) → cond b (1 + common xs zs) 0 < suc (length xs)
        → (common xs zs < length xs → common (xs ++ ys) zs ≡ common xs zs)
        → cond b (1 + common (xs ++ ys) zs) 0 ≡ cond b (1 + common xs zs) 0
    by true h f = ap (λ (n : ℕ). 1 + n) (f (omega (arith, h)))
    by false h f = refl

-- one whose front is a prefix goes on behind it
pub common_long : (xs ys zs : List ℕ) → length xs ≤ common xs zs
    → common (xs ++ ys) zs ≡ length xs + common ys (drop (length xs) zs)
common_long [] ys zs h = omega arith
common_long (x ∷ xs) ys [] h = absurd (omega (arith, h))
common_long (x ∷ xs) ys (z ∷ zs) h = by (nat_eq x z) h (λ k. common_long xs ys zs k)
  where
    by : (b : Bool) → suc (length xs) ≤ cond b (1 + common xs zs) 0
        → (length xs ≤ common xs zs → common (xs ++ ys) zs ≡ length xs + common ys (drop (length xs) zs))
        → cond b (1 + common (xs ++ ys) zs) 0 ≡ suc (length xs) + common ys (drop (length xs) zs)
    by true h f = (let e = f (omega (arith, h)) in omega (arith, e))
    by false h f = absurd (omega (arith, h))

-- lists that are common prefixes of one another are the same
pub common_whole : (xs ys : List ℕ) → common xs ys ≡ length xs → common xs ys ≡ length ys → xs ≡ ys
common_whole [] [] a b = refl
common_whole [] (y ∷ ys) a b = absurd (omega (arith, b))
common_whole (x ∷ xs) [] a b = absurd (omega (arith, a))
common_whole (x ∷ xs) (y ∷ ys) a b = by (nat_eq x y) refl a b (λ c d. common_whole xs ys c d)
  where
    by : (t : Bool) → nat_eq x y ≡ t → cond t (1 + common xs ys) 0 ≡ suc (length xs)
        → cond t (1 + common xs ys) 0 ≡ suc (length ys) → (common xs ys ≡ length xs → common xs ys ≡ length ys
        → xs ≡ ys) → x ∷ xs ≡ y ∷ ys
    by true e a b f = (let same : x ≡ y = grind (arith, nat_tests) in
        ap (λ (n : ℕ). n ∷ xs) same ∙ ap (λ (l : List ℕ). y ∷ l) (f (omega (arith, a)) (omega (arith, b))))
    by false e a b f = absurd (omega (arith, a))

-- a list is its own prefix
pub common_same : (xs : List ℕ) → common xs xs ≡ length xs
common_same [] = refl
common_same (x ∷ xs) = ap (λ (b : Bool). cond b (1 + common xs xs) 0)
    (let e : nat_eq x x ≡ true = grind (arith, nat_tests) in e) ∙ (let n = common_same xs in omega (arith, n))
