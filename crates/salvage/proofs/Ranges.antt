-- The parts of a zone that lies in a dump, as parts of the dump
use Rattle.std.proofs.Common.{◌≡◌, ℕ, zero, suc, ◌+◌, ◌-◌, ◌<◌, ◌≤◌, List, [], ◌++◌, length, take, drop, replicate}
use Rattle.std.proofs.Common.{refl, sym, ap, ap₂, ◌∙◌, arith, Option, None, Bool, true, false, if◌then◌else◌, zero-add}
use Rattle.std.proofs.Common.{le-leb, length-take, length-drop}
use Rattle.std.proofs.Math.Dec.{leb}
use Rattle.std.proofs.lemmas.Bool.Decides.{leb_tells}
use Rattle.std.proofs.Common.{◌⊎◌, inl, inr}
use Rattle.std.specs.Prelude.{slice_range, is_some}
use Rattle.std.proofs.lemmas.List.{drop-take, append-nil, length-replicate, take-take, drop-drop}
use Rattle.zone_spec.specs.declared.Zone.{Zone}
use Rattle.zone_spec.specs.Parts.{Header, part_word, part_bytes, part_parity_at}
use Rattle.zone_spec.specs.Stores.{put}
use Rattle.prz_region.proofs.Stores.{put-parts}
use Rattle.salvage_spec.specs.Rings.{bytes_at, header_at, ring_at, ring_in}
use Rattle.salvage_spec.specs.declared.FoundRing.{FoundRing}

drop_none : (n : ℕ) → drop {A = ℕ} n [] ≡ []
drop_none zero = refl
drop_none (suc n) = refl

slice_within : (xs : List ℕ) (a n i j : ℕ) → i ≤ j → j ≤ n
    → slice_range (slice_range xs a (a + n)) i j ≡ slice_range xs (a + i) (a + j)
slice_within xs a n i j li lj =
    let whole : a + n - a ≡ i + (n - i) = omega arith in
    let long : j - i ≡ (a + j) - (a + i) = omega arith in
    ap (λ (k : ℕ). take (j - i) (drop i (take k (drop a xs)))) whole
    ∙ ap (take (j - i)) (drop-take i (n - i) (drop a xs))
    ∙ take-take (j - i) (n - i) (drop i (drop a xs)) (omega arith)
    ∙ ap (take (j - i)) (drop-drop i a xs)
    ∙ ap (λ (k : ℕ). take k (drop (a + i) xs)) long

-- where a header's bytes and their parity stand in the dump
pub header_is : (z : Zone) (dump : List ℕ) (at p q : ℕ) → p ≡ part_parity_at z Header → p + z.parity ≤ z.size
    → 12 ≤ z.size → q ≡ at + p
    → slice_range dump at (at + 12) ++ slice_range dump q (q + z.parity) ≡ header_at z dump at
unfolding part_word part_bytes
header_is z dump at p q ep inside twelve eq =
    let from : at + 0 ≡ at = omega arith in
    let to : at + (p + z.parity) ≡ q + z.parity = omega arith in
    sym (ap₂ (λ (u v : List ℕ). u ++ v)
    (slice_within dump at z.size 0 12 (omega arith) twelve ∙ ap (λ (k : ℕ). slice_range dump k (at + 12)) from)
    (ap (λ (k : ℕ). slice_range (bytes_at z dump at) k (k + z.parity)) (sym ep)
    ∙ slice_within dump at z.size p (p + z.parity) (omega arith) inside
    ∙ ap₂ (λ (k l : ℕ). slice_range dump k l) (sym eq) to))

pub no_room : (dump : List ℕ) (at : ℕ) (z : Zone) → length dump < at + z.size → None ≡ ring_at dump at z
unfolding ring_at
no_room dump at z l = by (leb_tells (at + z.size) (length dump))
  where
    by : ((leb (at + z.size) (length dump) ≡ true) × (at + z.size ≤ length dump))
        ⊎ ((leb (at + z.size) (length dump) ≡ false) × (length dump < at + z.size)) → None ≡ ring_at dump at z
    by (inl h) = absurd (let k = h.1 in omega arith)
    by (inr h) = ap (λ (b : Bool). if b then ring_in z at (header_at z dump at) else None) (sym h.0)

pub room : (dump : List ℕ) (at : ℕ) (z : Zone) (word : List ℕ) (o : Option FoundRing) → at + z.size ≤ length dump
    → word ≡ header_at z dump at → o ≡ ring_in z at word → o ≡ ring_at dump at z
unfolding ring_at
room dump at z word o l e h = h ∙ ap (ring_in z at) e
    ∙ ap (λ (b : Bool). if b then ring_in z at (header_at z dump at) else None)
    (sym (le-leb (at + z.size) (length dump) l))

-- a ring lies within the dump
pub ring_within : (dump : List ℕ) (at : ℕ) (z : Zone) → is_some (ring_at dump at z) ≡ true
    → at + z.size ≤ length dump
unfolding ring_at
ring_within dump at z h = by (leb_tells (at + z.size) (length dump)) h
  where
    by : ((leb (at + z.size) (length dump) ≡ true) × (at + z.size ≤ length dump))
        ⊎ ((leb (at + z.size) (length dump) ≡ false) × (length dump < at + z.size))
        → is_some (if leb (at + z.size) (length dump) then ring_in z at (header_at z dump at) else None) ≡ true
        → at + z.size ≤ length dump
    by (inl h) s = h.1
    by (inr h) s = (let bad : false ≡ true =
        sym (ap (λ (b : Bool). is_some (if b then ring_in z at (header_at z dump at) else None)) h.0) ∙ s in cc)

-- bytes put over zeros are those bytes
pub filled : (n : ℕ) (bytes : List ℕ) → length bytes ≡ n → put (replicate n 0) 0 bytes ≡ bytes
filled n bytes l =
    put-parts (replicate n 0) 0 bytes (omega (arith, length-replicate {A = ℕ} n 0))
    ∙ ap (λ (k : ℕ). bytes ++ drop k (replicate n 0)) (zero-add (length bytes) ∙ l)
    ∙ ap (λ (xs : List ℕ). bytes ++ xs) (none_left n) ∙ append-nil bytes
  where
    none_left : (n : ℕ) → drop n (replicate {A = ℕ} n 0) ≡ []
    none_left zero = refl
    none_left (suc n) = none_left n

pub length-bytes_at : (z : Zone) (dump : List ℕ) (at : ℕ) → at + z.size ≤ length dump
    → length (bytes_at z dump at) ≡ z.size
length-bytes_at z dump at l =
    omega (arith, length-take (at + z.size - at) (drop at dump), length-drop at dump)

-- what a span holds that was zeros and is filled with a place's bytes
pub holds : (z : Zone) (dump : List ℕ) (at : ℕ) (zeros full span : List ℕ) → at + z.size ≤ length dump
    → zeros ≡ replicate z.size 0 → full ≡ put zeros 0 (bytes_at z dump at) → span ≡ full → span ≡ bytes_at z dump at
holds z dump at zeros full span l ez ef es =
    es ∙ ef ∙ ap (λ (xs : List ℕ). put xs 0 (bytes_at z dump at)) ez
    ∙ filled z.size (bytes_at z dump at) (length-bytes_at z dump at l)
