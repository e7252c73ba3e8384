-- Items of lists beside one another
use Rattle.std.proofs.Common.{◌≡◌, ◌≢◌, ℕ, zero, suc, ◌+◌, ◌<◌, ◌≤◌, List, [], ◌∷◌, ◌++◌, length, take, drop, map, zip}
use Rattle.std.proofs.Common.{flat_map, slice_get, slice_set, Contains, Some, refl, sym, ap, ap₂, ◌∙◌, subst, arith}
use Rattle.std.proofs.lemmas.List.Elements.{Contains-append_left, Contains-append_right}

-- the items but the one that is set
pub other_item : {X : Type 0} (xs : List X) (i j : ℕ) (x : X) → j ≢ i → slice_get (slice_set xs i x) j ≡ slice_get xs j
other_item [] i j x n = refl
other_item (w ∷ ws) zero zero x n = absurd (n refl)
other_item (w ∷ ws) zero (suc j) x n = refl
other_item (w ∷ ws) (suc i) zero x n = refl
other_item (w ∷ ws) (suc i) (suc j) x n = other_item ws i j x (λ e. n (ap suc e))

-- and that one
pub set_item : {X : Type 0} (xs : List X) (i : ℕ) (old new : X) → slice_get xs i ≡ Some old
    → slice_get (slice_set xs i new) i ≡ Some new
set_item [] i old new e = absurd (cc)
set_item (w ∷ ws) zero old new e = refl
set_item (w ∷ ws) (suc i) old new e = set_item ws i old new e

pub map_item : {X Y : Type 0} (f : X → Y) (xs : List X) (i : ℕ) (x : X) → slice_get xs i ≡ Some x
    → slice_get (map f xs) i ≡ Some (f x)
map_item f [] i x e = absurd (cc)
map_item f (w ∷ ws) zero x e = let a : w ≡ x = cc in ap (λ y. Some (f y)) a
map_item f (w ∷ ws) (suc i) x e = map_item f ws i x e

pub zip_item : {X Y : Type 0} (xs : List X) (ys : List Y) (i : ℕ) (x : X) (y : Y) → slice_get xs i ≡ Some x
    → slice_get ys i ≡ Some y → slice_get (zip xs ys) i ≡ Some (x, y)
zip_item [] ys i x y e h = absurd (cc)
zip_item (u ∷ us) [] i x y e h = absurd (cc)
zip_item (u ∷ us) (v ∷ vs) zero x y e h =
    let a : u ≡ x = cc in let b : v ≡ y = cc in ap₂ (λ s t. Some (s, t)) a b
zip_item (u ∷ us) (v ∷ vs) (suc i) x y e h = zip_item us vs i x y e h

pub in_flat : {X Y : Type 0} (f : X → List Y) (xs : List X) (i : ℕ) (x : X) (y : Y) → slice_get xs i ≡ Some x
    → Contains (f x) y → Contains (flat_map f xs) y
in_flat f [] i x y e h = absurd (cc)
in_flat f (w ∷ ws) zero x y e h =
    let a : w ≡ x = cc in Contains-append_left (f w) (flat_map f ws) y (subst (λ u. Contains (f u) y) (sym a) h)
in_flat f (w ∷ ws) (suc i) x y e h = Contains-append_right (f w) (flat_map f ws) y (in_flat f ws i x y e h)

-- a first list, and what lies behind it
pub front_of : (xs ys : List ℕ) (n : ℕ) → n ≡ length xs → take n (xs ++ ys) ≡ xs
front_of [] ys n e = ap (λ (k : ℕ). take k ys) e
front_of (x ∷ xs) ys n e =
    ap (λ (k : ℕ). take k (x ∷ (xs ++ ys))) e ∙ ap (λ (us : List ℕ). x ∷ us) (front_of xs ys (length xs) refl)

pub behind_of : (xs ys : List ℕ) (m n : ℕ) → m ≡ length xs + n → drop m (xs ++ ys) ≡ drop n ys
behind_of [] ys m n e = let same : m ≡ n = omega arith in ap (λ (k : ℕ). drop k ys) same
behind_of (x ∷ xs) ys m n e =
    let same : m ≡ suc (length xs + n) = omega arith in
    ap (λ (k : ℕ). drop k (x ∷ (xs ++ ys))) same ∙ behind_of xs ys (length xs + n) n refl

-- a part of a list with one item changed outside of it
take_set : (xs : List ℕ) (n i x : ℕ) → n ≤ i → take n (slice_set xs i x) ≡ take n xs
take_set [] n i x h = refl
take_set (w ∷ ws) zero i x h = refl
take_set (w ∷ ws) (suc n) zero x h = absurd (omega arith)
take_set (w ∷ ws) (suc n) (suc i) x h = ap (λ (us : List ℕ). w ∷ us) (take_set ws n i x (omega arith))

pub set_before : (xs : List ℕ) (a i x : ℕ) → i < a → drop a (slice_set xs i x) ≡ drop a xs
set_before [] a i x h = refl
set_before (w ∷ ws) zero i x h = absurd (omega arith)
set_before (w ∷ ws) (suc a) zero x h = refl
set_before (w ∷ ws) (suc a) (suc i) x h = set_before ws a i x (omega arith)

pub set_behind : (xs : List ℕ) (a n i x : ℕ) → a + n ≤ i → take n (drop a (slice_set xs i x)) ≡ take n (drop a xs)
set_behind xs zero n i x h = take_set xs n i x (omega arith)
set_behind [] (suc a) n i x h = refl
set_behind (w ∷ ws) (suc a) n zero x h = absurd (omega arith)
set_behind (w ∷ ws) (suc a) n (suc i) x h = set_behind ws a n i x (omega arith)
