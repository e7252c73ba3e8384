-- The items up to a place, one place on
use Rattle.std.proofs.Common.{◌≡◌, ℕ, zero, suc, ◌+◌, List, [], ◌∷◌, ◌++◌, take, refl, ap, sym, ◌∙◌, arith}
use Rattle.std.specs.Prelude.{Option, Some, None, slice_get, option_to_list}

take_nil : {A : Type 0} (n : ℕ) → take {A = A} n [] ≡ []
take_nil zero = refl
take_nil (suc n) = refl

pub take_next : {A : Type 0} (xs : List A) (i : ℕ) → take (i + 1) xs ≡ take i xs ++ option_to_list (slice_get xs i)
take_next {A} [] zero = take_nil (0 + 1)
take_next {A} [] (suc i) = take_nil (suc i + 1)
    ∙ sym (ap (λ (ys : List A). ys ++ option_to_list (slice_get {X = A} [] (suc i))) (take_nil (suc i)))
take_next {A} (x ∷ xs) zero = refl
take_next {A} (x ∷ xs) (suc i) =
    ap (λ (n : ℕ). take n (x ∷ xs)) (let e : suc i + 1 ≡ suc (i + 1) = omega arith in e)
    ∙ ap (λ (ys : List A). x ∷ ys) (take_next xs i)

-- items that were added one by one
pub added : {A : Type 0} (xs old new : List A) (i : ℕ) (o : Option A) → old ≡ take i xs → o ≡ slice_get xs i
    → new ≡ old ++ option_to_list o → new ≡ take (i + 1) xs
added {A} xs old new i o was is now =
    now ∙ ap (λ (ys : List A). ys ++ option_to_list o) was
    ∙ ap (λ (p : Option A). take i xs ++ option_to_list p) is ∙ sym (take_next xs i)
