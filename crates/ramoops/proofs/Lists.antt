-- Items of lists, by their places
use Rattle.std.proofs.Common.{◌≡◌, ◌≢◌, ℕ, zero, suc, ◌<◌, List, [], ◌∷◌, ◌++◌, length, slice_get, set, refl, ap, ◌∙◌}
use Rattle.std.proofs.Common.{arith, inl, inr, ◌⊎◌, Some}
use Rattle.machine_laws.proofs.Lists.{get-set}
pub use Rattle.list_laws.proofs.Gets.{slice_get-map_some as get-of-map}

-- an item of a list that one was put behind: an old one, or that one
pub get-pushed : {X : Type 0} (xs : List X) (x : X) (i : ℕ) (y : X) → slice_get (xs ++ x ∷ []) i ≡ Some y
    → ((i < length xs) × (slice_get xs i ≡ Some y)) ⊎ ((i ≡ length xs) × (x ≡ y))
get-pushed [] x zero y e = inr (refl, cc)
get-pushed [] x (suc i) y e = let n : ◌≡◌ {A = ℕ} 0 1 = cc in absurd (omega (arith, n))
get-pushed (w ∷ ws) x zero y e = inl (omega arith, e)
get-pushed (w ∷ ws) x (suc i) y e = elim (get-pushed ws x i y e)
    [ inl a ↦ (let b = a.0 in inl (omega (arith, b), a.1)) | inr b ↦ inr (ap suc b.0, b.1) ]

pub get-same : {X : Type 0} (xs : List X) (i : ℕ) (x y : X) → slice_get (set xs i x) i ≡ Some y → x ≡ y
get-same xs i x y e = elim (get-set xs i i x y e) [ inl a ↦ a.1 | inr b ↦ absurd (b.0 refl) ]

pub get-other : {X : Type 0} (xs : List X) (i j : ℕ) (x y : X) → j ≢ i → slice_get (set xs i x) j ≡ Some y
    → slice_get xs j ≡ Some y
get-other xs i j x y n e = elim (get-set xs i j x y e) [ inl a ↦ absurd (n a.0) | inr b ↦ b.1 ]

-- lists with the same items at the same places
pub same_items : {X : Type 0} (xs ys : List X) → length xs ≡ length ys
    → ((i : ℕ) (x y : X) → slice_get xs i ≡ Some x → slice_get ys i ≡ Some y → x ≡ y) → xs ≡ ys
same_items [] [] e same = refl
same_items [] (y ∷ ys) e same = absurd (omega (arith, e))
same_items (x ∷ xs) [] e same = absurd (omega (arith, e))
same_items {X} (x ∷ xs) (y ∷ ys) e same =
    ap (λ (z : X). z ∷ xs) (same 0 x y refl refl) ∙ ap (λ (zs : List X). y ∷ zs)
    (same_items xs ys (omega (arith, e)) (λ i a b ea eb. same (suc i) a b ea eb))
