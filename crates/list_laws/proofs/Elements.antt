-- Fronts of lists, runs of one element, and what holds of all elements. For proofs on bytes of zones, blocks and words.
use Rattle.std.proofs.Common.{◌≡◌, ℕ, zero, suc, ◌-◌, ◌<◌, Bool, ◌||◌, List, [], ◌∷◌, ◌++◌, length, get_or, take}
use Rattle.std.proofs.Common.{replicate, refl, sym, ap, ap₂, ◌∙◌, arith, take_all, ◌≤◌}
use Rattle.std.specs.List.{AllByRecursion, list_any}

pub take-append : {A : Type 0} (n : ℕ) (xs ys : List A) → take n (xs ++ ys) ≡ take n xs ++ take (n - length xs) ys
take-append n [] ys = ap (λ (m : ℕ). take m ys) (let e : n ≡ n - 0 = omega arith in e)
    ∙ ap (λ l. l ++ take (n - 0) ys) (let e : [] ≡ take n [] = sym (take_all n [] (omega arith)) in e)
take-append zero (x ∷ xs) ys = ap (λ (m : ℕ). take m ys) (let e : 0 ≡ 0 - suc (length xs) = omega arith in e)
take-append (suc n) (x ∷ xs) ys = ap (λ l. x ∷ l) (take-append n xs ys)
    ∙ ap (λ (m : ℕ). x ∷ (take n xs ++ take m ys)) (let e : n - length xs ≡ suc n - suc (length xs) = omega arith in e)

-- a front that has the whole first list
pub take-append_past : {A : Type 0} (n : ℕ) (xs ys : List A) → length xs ≤ n
    → take n (xs ++ ys) ≡ xs ++ take (n - length xs) ys
take-append_past n xs ys h = take-append n xs ys ∙ ap (λ l. l ++ take (n - length xs) ys) (take_all n xs h)

-- a run of the default reads as the default everywhere
pub get_or-replicate_default : {A : Type 0} (m n : ℕ) (d : A) → get_or (replicate m d) n d ≡ d
get_or-replicate_default zero n d = refl
get_or-replicate_default (suc m) zero d = refl
get_or-replicate_default (suc m) (suc n) d = get_or-replicate_default m n d

-- an element at all places
pub replicate_from_places : {A : Type 0} (d : A) (xs : List A) → ((k : ℕ) → k < length xs → get_or xs k d ≡ d)
    → xs ≡ replicate (length xs) d
replicate_from_places d [] h = refl
replicate_from_places d (x ∷ xs) h = ap₂ ◌∷◌ (h 0 (omega arith))
    (replicate_from_places d xs (λ k l. h (suc k) (omega arith)))

pub AllByRecursion-append : {A : Type 0} (P : A → Type 0) (xs ys : List A) → AllByRecursion P xs → AllByRecursion P ys
    → AllByRecursion P (xs ++ ys)
AllByRecursion-append P [] ys h k = k
AllByRecursion-append P (x ∷ xs) ys h k = (h.0, AllByRecursion-append P xs ys h.1 k)

pub AllByRecursion_from_places : (P : ℕ → Type 0) (xs : List ℕ) → ((k : ℕ) → P (get_or xs k 0)) → AllByRecursion P xs
AllByRecursion_from_places P [] h = tt
AllByRecursion_from_places P (x ∷ xs) h = (h 0, AllByRecursion_from_places P xs (λ k. h (suc k)))

pub list_any_same : {A : Type 0} (p q : A → Bool) (xs : List A) → ((x : A) → p x ≡ q x) → list_any p xs ≡ list_any q xs
list_any_same p q [] same = refl
list_any_same p q (x ∷ xs) same = ap₂ (λ (a b : Bool). a || b) (same x) (list_any_same p q xs same)
