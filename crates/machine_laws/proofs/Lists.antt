-- Lists beside the layout
use Rattle.std.proofs.Common.{◌≡◌, ◌≢◌, ℕ, zero, suc, ◌+◌, ◌-◌, ◌<◌, ◌≤◌, Bool, false, List, [], ◌∷◌, ◌++◌, length}
use Rattle.std.proofs.Common.{take, map, flat_map, slice_get, set, get_or, refl, sym, ap, ◌∙◌, subst, arith, inl, inr}
use Rattle.std.proofs.Common.{◌⊎◌, Some, None, length-append}
use Rattle.std.specs.Prelude.{zip}
use Rattle.std.specs.List.{list_any}
use Rattle.std.proofs.lemmas.Bool.{cases_lt, or_parts}
use Rattle.std.proofs.lemmas.List.{get_or_append_left, get_or-append_right, length-map}
use Rattle.std.proofs.lemmas.List.Sums.{sum_by-cons}
use Rattle.zone_spec.specs.declared.Zone.{Zone}
use Rattle.zone_spec.specs.Stores.{Store}
use Rattle.zone_spec.specs.Boot.{boot_stores}
use Rattle.machine_spec.specs.States.{LiveZone, OffZone}
use Rattle.zone_spec.specs.Layouts.{zones_end}
use Rattle.machine_spec.specs.Zones.{EachZone, zone_bytes}
use Rattle.machine_spec.specs.BootPart.{moved, image_boot_stores, zone_parted, left_at, zones_parted}
use Rattle.zone_spec.specs.Parts.{AreBytes, IsImage}

pub get-set : {X : Type 0} (xs : List X) (i j : ℕ) (x y : X) → slice_get (set xs i x) j ≡ Some y
    → ((j ≡ i) × (x ≡ y)) ⊎ ((j ≢ i) × (slice_get xs j ≡ Some y))
get-set [] i j x y e = inr ((λ h. let b : ◌≡◌ {A = ℕ} 0 1 = cc in omega (arith, b)), e)
get-set (w ∷ ws) zero zero x y e = inl (refl, cc)
get-set (w ∷ ws) zero (suc j) x y e = inr ((λ h. omega (arith, h)), e)
get-set (w ∷ ws) (suc i) zero x y e = inr ((λ h. omega (arith, h)), e)
get-set (w ∷ ws) (suc i) (suc j) x y e = elim (get-set ws i j x y e)
    [ inl a ↦ inl (ap suc a.0, a.1) | inr b ↦ inr ((λ h. b.0 (omega (arith, h))), b.1) ]

pub get-map : {X Y : Type 0} (f : X → Y) (xs : List X) (i : ℕ) (x : X) (y : Y) → slice_get xs i ≡ Some x
    → slice_get (map f xs) i ≡ Some y → f x ≡ y
get-map f [] i x y e h = let b : Some x ≡ None = sym e in cc
get-map f (w ∷ ws) zero x y e h = let a : w ≡ x = cc in let b : f w ≡ y = cc in ap f (sym a) ∙ b
get-map f (w ∷ ws) (suc i) x y e h = get-map f ws i x y e h

pub get-zip-map : {X Y W : Type 0} (f : X × Y → W) (xs : List X) (ys : List Y) (i : ℕ) (x : X) (w : W)
    → slice_get xs i ≡ Some x → slice_get (map f (zip xs ys)) i ≡ Some w
    → (y : Y) × (slice_get ys i ≡ Some y) × (f (x, y) ≡ w)
get-zip-map f [] ys i x w e h = let b : Some x ≡ None = sym e in cc
get-zip-map f (u ∷ us) [] i x w e h = let b : Some w ≡ None = sym h in cc
get-zip-map f (u ∷ us) (v ∷ vs) zero x w e h = let a : u ≡ x = cc in let b : f (u, v) ≡ w = cc in
    (v, refl, ap (λ t. f (t, v)) (sym a) ∙ b)
get-zip-map f (u ∷ us) (v ∷ vs) (suc i) x w e h = get-zip-map f us vs i x w e h

pub length-zip-map : {X Y W : Type 0} (f : X × Y → W) (xs : List X) (ys : List Y) → length ys ≡ length xs
    → length (map f (zip xs ys)) ≡ length xs
length-zip-map f [] ys e = refl
length-zip-map f (u ∷ us) [] e = absurd (omega arith)
length-zip-map f (u ∷ us) (v ∷ vs) e = ap suc (length-zip-map f us vs (omega arith))

-- of the zones that a cut boot leaves the i-th has what is left of the stores after those of the zones before it
pub parted-at : (image : List ℕ) (all : Bool) (layout : List Zone) (left : ℕ) (zones : List OffZone) (i : ℕ)
    (z : Zone) (w : OffZone) → slice_get layout i ≡ Some z
    → slice_get (zones_parted layout image all left zones) i ≡ Some w
    → (y : OffZone) × (slice_get zones i ≡ Some y)
    × (zone_parted z (zone_bytes z image) all (left_at layout image left i) y ≡ w)
unfolding zones_parted
parted-at image all [] left ys i z w e h = let b : Some z ≡ None = sym e in cc
parted-at image all (u ∷ us) left [] i z w e h = let b : Some w ≡ None = sym h in cc
parted-at image all (u ∷ us) left (v ∷ vs) zero z w e h =
    let a : u ≡ z = cc in
    let b : zone_parted u (zone_bytes u image) all left v ≡ w = cc in
    let m : left_at (u ∷ us) image left 0 ≡ left = omega arith in (
      v,
      refl,
      ap (λ n. zone_parted z (zone_bytes z image) all n v) m
          ∙ ap (λ t. zone_parted t (zone_bytes t image) all left v) (sym a) ∙ b,
    )
parted-at image all (u ∷ us) left (v ∷ vs) (suc i) z w e h =
    let own : List Store = boot_stores u (zone_bytes u image) in
    let r = parted-at image all us (left - length own) vs i z w e h in
    let m : left_at (u ∷ us) image left (suc i) ≡ left_at us image (left - length own) i =
    omega (
      arith,
      length-append (map (λ s. moved u.at s) own) (image_boot_stores (take i us) image),
      length-map own (λ s. moved u.at s),
    ) in
    (r.0, r.1, ap (λ n. zone_parted z (zone_bytes z image) all n r.0) m ∙ r.2)

pub length-parted : (image : List ℕ) (all : Bool) (layout : List Zone) (left : ℕ) (zones : List OffZone)
    → length zones ≡ length layout → length (zones_parted layout image all left zones) ≡ length layout
unfolding zones_parted
length-parted image all [] left zones e = refl
length-parted image all (u ∷ us) left [] e = absurd (omega arith)
length-parted image all (u ∷ us) left (v ∷ vs) e = ap suc
    (length-parted image all us (left - length (boot_stores u (zone_bytes u image))) vs (omega arith))

-- what is of each zone of a list and of what a function makes of it
pub each-zip-map : {X Y : Type 0} (layout : List Zone) (xs : List X) (P : Zone → X → Type 0) (Q : Zone → Y → Type 0)
    (f : Zone × X → Y)
    → ((i : ℕ) (z : Zone) (x : X) → slice_get layout i ≡ Some z → slice_get xs i ≡ Some x → P z x → Q z (f (z, x)))
    → EachZone layout xs P → EachZone layout (map f (zip layout xs)) Q
each-zip-map layout xs P Q f step each = (
  length-zip-map f layout xs each.0,
  λ i z y hz hy. let r = get-zip-map f layout xs i z y hz hy in
      subst (Q z) r.2 (step i z r.0 hz r.1 (each.1 i z r.0 hz r.1)),
)

pub each-map : {Y : Type 0} (layout : List Zone) (Q : Zone → Y → Type 0) (f : Zone → Y)
    → ((i : ℕ) (z : Zone) → slice_get layout i ≡ Some z → Q z (f z)) → EachZone layout (map f layout) Q
each-map layout Q f step = (
  length-map layout f,
  λ i z y hz hy. subst (Q z) (get-map f layout i z y hz hy) (step i z hz),
)

-- no pair of a test that holds for none
pub none_any : {X Y : Type 0} (p : X × Y → Bool) (xs : List X) (ys : List Y) (i : ℕ) (x : X) (y : Y)
    → list_any p (zip xs ys) ≡ false → slice_get xs i ≡ Some x → slice_get ys i ≡ Some y → p (x, y) ≡ false
none_any p [] ys i x y n e h = let b : Some x ≡ None = sym e in cc
none_any p (u ∷ us) [] i x y n e h = let b : Some y ≡ None = sym h in cc
none_any p (u ∷ us) (v ∷ vs) zero x y n e h =
    let a : u ≡ x = cc in let b : v ≡ y = cc in ap (λ t. p (t, y)) (sym a) ∙ ap (λ t. p (u, t)) (sym b)
    ∙ (or_parts (p (u, v)) (list_any p (zip us vs)) n).0
none_any p (u ∷ us) (v ∷ vs) (suc i) x y n e h = none_any p us vs i x y
    (or_parts (p (u, v)) (list_any p (zip us vs)) n).1 e h

pub get-below : {X : Type 0} (xs : List X) (i : ℕ) (y : X) → slice_get xs i ≡ Some y → i < length xs
get-below [] i y e = let n : ◌≡◌ {A = ℕ} 0 1 = cc in absurd (omega (arith, n))
get-below (x ∷ xs) zero y e = omega arith
get-below (x ∷ xs) (suc i) y e = omega (arith, get-below xs i y e)

-- ---- bytes
pub bytes-join : (xs ys : List ℕ) → AreBytes xs → AreBytes ys → AreBytes (xs ++ ys)
bytes-join xs ys h k i = elim (cases_lt i (length xs)) [
  | inl l ↦ rw (get_or_append_left xs ys 0 i l) (h i)
  | inr g ↦ rw (get_or-append_right xs ys (length xs) i 0 refl g) (k (i - length xs))
]

pub bytes-right : (xs ys : List ℕ) → AreBytes (xs ++ ys) → AreBytes ys
bytes-right xs ys h i =
    let e : get_or (xs ++ ys) (length xs + i) 0 ≡ get_or ys i 0 =
    get_or-append_right xs ys (length xs) (length xs + i) 0 refl (omega arith)
    ∙ ap (λ n. get_or ys n 0) (let m : length xs + i - length xs ≡ i = omega arith in m) in
    rw (← e) (h (length xs + i))

pub bytes-none : AreBytes []
bytes-none zero = omega arith
bytes-none (suc i) = omega arith

-- ---- the images of the zones end to end
pub images : List LiveZone → List ℕ
images zones = flat_map (λ (zone : LiveZone). zone.image) zones

pub images_are : (layout : List Zone) (zones : List LiveZone) → EachZone layout zones (λ z zone. IsImage z zone.image)
    → (length (flat_map (λ (zone : LiveZone). zone.image) zones) ≡ zones_end layout)
    × AreBytes (flat_map (λ (zone : LiveZone). zone.image) zones)
images_are [] [] each = (refl, bytes-none)
images_are [] (v ∷ vs) each = absurd (omega (arith, each.0))
images_are (z ∷ zs) [] each = absurd (omega (arith, each.0))
images_are (z ∷ zs) (v ∷ vs) each =
    let here : IsImage z v.image = each.1 0 z v refl refl in
    let rest = images_are zs vs (omega (arith, each.0), λ i y w hy hw. each.1 (suc i) y w hy hw) in (
      omega (
        arith,
        here.0,
        rest.0,
        length-append v.image (flat_map (λ (zone : LiveZone). zone.image) vs),
        sum_by-cons (λ (y : Zone). y.size) z zs,
      ),
      bytes-join v.image _ here.1 rest.1,
    )

-- where a zone lies
pub zone_within : (layout : List Zone) (i : ℕ) (z : Zone) → slice_get layout i ≡ Some z
    → zones_end (take i layout) + z.size ≤ zones_end layout
zone_within [] i z e = let n : ◌≡◌ {A = ℕ} 0 1 = cc in absurd (omega (arith, n))
zone_within (y ∷ ys) zero z e = let s : y ≡ z = cc in omega
    (arith, sum_by-cons (λ (y : Zone). y.size) y ys, ap (λ (v : Zone). v.size) s)
zone_within (y ∷ ys) (suc i) z e = omega (
  arith,
  sum_by-cons (λ (y : Zone). y.size) y ys,
  sum_by-cons (λ (y : Zone). y.size) y (take i ys),
  zone_within ys i z e,
)
