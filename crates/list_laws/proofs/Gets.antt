-- What stands at a place of a list, of what a function made of a list, and of two lists side by side. For proofs that
-- go over zones and what belongs to each.
use Rattle.std.proofs.Common.{◌≡◌, ℕ, zero, suc, ◌<◌, List, [], ◌∷◌, length, map, slice_get, refl, ap, arith, Some}
use Rattle.std.proofs.Common.{None}
use Rattle.std.specs.List.{zip}
use Rattle.std.specs.Option.{option_map}

pub slice_get_there : {X : Type 0} (xs : List X) (i : ℕ) → i < length xs → (x : X) × (slice_get xs i ≡ Some x)
slice_get_there [] i h = absurd (omega arith)
slice_get_there (x ∷ xs) zero h = (x, refl)
slice_get_there (x ∷ xs) (suc i) h = slice_get_there xs i (omega arith)

pub slice_get-map_some : {X Y : Type 0} (f : X → Y) (xs : List X) (i : ℕ) (x : X) → slice_get xs i ≡ Some x
    → slice_get (map f xs) i ≡ Some (f x)
slice_get-map_some f [] i x e = let n : None ≡ Some x = e in cc
slice_get-map_some f (w ∷ ws) zero x e = let same : w ≡ x = cc in ap (λ y. Some (f y)) same
slice_get-map_some f (w ∷ ws) (suc i) x e = slice_get-map_some f ws i x e

-- a pair and its two elements
pub slice_get-zip_parts : {X Y : Type 0} (xs : List X) (ys : List Y) (i : ℕ) (p : X × Y)
    → slice_get (zip xs ys) i ≡ Some p → (slice_get xs i ≡ Some p.0) × (slice_get ys i ≡ Some p.1)
slice_get-zip_parts [] ys i p e = let n : None ≡ Some p = e in cc
slice_get-zip_parts (u ∷ us) [] i p e = let n : None ≡ Some p = e in cc
slice_get-zip_parts {X = X} {Y = Y} (u ∷ us) (v ∷ vs) zero p e =
    let same : (u, v) ≡ p = cc in (ap (λ (q : X × Y). Some q.0) same, ap (λ (q : X × Y). Some q.1) same)
slice_get-zip_parts (u ∷ us) (v ∷ vs) (suc i) p e = slice_get-zip_parts us vs i p e

pub slice_get-zip_some : {X Y : Type 0} (xs : List X) (ys : List Y) (i : ℕ) (x : X) (y : Y) → slice_get xs i ≡ Some x
    → slice_get ys i ≡ Some y → slice_get (zip xs ys) i ≡ Some (x, y)
slice_get-zip_some [] ys i x y e h = let n : None ≡ Some x = e in cc
slice_get-zip_some (u ∷ us) [] i x y e h = let n : None ≡ Some y = h in cc
slice_get-zip_some (u ∷ us) (v ∷ vs) zero x y e h =
    let a : u ≡ x = cc in let b : v ≡ y = cc in rw (a, b) refl
slice_get-zip_some (u ∷ us) (v ∷ vs) (suc i) x y e h = slice_get-zip_some us vs i x y e h

pub slice_get-zip_second : {X Y : Type 0} (xs : List X) (ys : List Y) (i : ℕ) (y : Y) → i < length xs
    → slice_get ys i ≡ Some y → option_map (λ (p : X × Y). p.1) (slice_get (zip xs ys) i) ≡ Some y
slice_get-zip_second [] ys i y l h = absurd (omega arith)
slice_get-zip_second (x ∷ xs) [] i y l h = cc
slice_get-zip_second (x ∷ xs) (w ∷ ws) zero y l h = h
slice_get-zip_second (x ∷ xs) (w ∷ ws) (suc i) y l h = slice_get-zip_second xs ws i y (omega arith) h
