-- Saved readings beside their zones
use Rattle.std.proofs.Common.{◌≡◌, ℕ, zero, suc, ◌<◌, ◌≤◌, get_or, List, [], ◌∷◌, refl, sym, ap, ap₂, ◌∙◌, subst, arith}
use Rattle.std.proofs.Common.{Option, Some, None}
use Rattle.std.specs.Prelude.{slice_get, length}
use Rattle.std.specs.List.{zip}
use Rattle.std.specs.Option.{option_map}
use Rattle.std.proofs.lemmas.List.Sums.{sum_by-cons}
use Rattle.std.proofs.lemmas.Option.{slice_get-get_or}
use Rattle.list_laws.proofs.Gets.{slice_get-zip_second}
use Rattle.zone_spec.specs.declared.Zone.{Zone}
use Rattle.zone_spec.specs.Layouts.{zones_end, IsLayout}
use Rattle.zone_spec.specs.Reading.{ZoneReading}
use Rattle.zone_spec.specs.Records.{Saved}
use Rattle.prz_read.specs.Saving.{SavedLogs, saved}

module _ {A B : Type 0} where
  pub zip-at : (xs : List A) (ys : List B) (i : ℕ) (a : A) (b : B) → slice_get xs i ≡ Some a → slice_get ys i ≡ Some b
      → slice_get (zip xs ys) i ≡ Some (a, b)
  zip-at [] ys i a b h k = cc
  zip-at (x ∷ xs) [] i a b h k = cc
  zip-at (x ∷ xs) (y ∷ ys) zero a b h k = let e : x ≡ a = cc in let f : y ≡ b = cc in
      ap₂ (λ (v : A) (w : B). Some (v, w)) e f
  zip-at (x ∷ xs) (y ∷ ys) (suc i) a b h k = zip-at xs ys i a b h k

  pub zip-length : (xs : List A) (ys : List B) → length ys ≤ length xs → length (zip xs ys) ≡ length ys
  zip-length [] [] l = refl
  zip-length (x ∷ xs) [] l = refl
  zip-length [] (y ∷ ys) l = absurd (omega arith)
  zip-length (x ∷ xs) (y ∷ ys) l = ap (λ (n : ℕ). suc n) (zip-length xs ys (omega arith))

-- the saved reading at a place, beside its zone
pub zone-beside : (logs : SavedLogs) (i : ℕ) (z : Zone) → z ≡ get_or logs.zones i z → i < length logs.readings
    → length logs.readings ≤ length logs.zones → slice_get (saved logs) i ≡ Some (z, get_or logs.readings i None)
zone-beside logs i z at some room =
    zip-at logs.zones logs.readings i z (get_or logs.readings i None)
    (slice_get-get_or logs.zones i z (omega arith) ∙ ap (λ (w : Zone). Some w) (sym at))
    (slice_get-get_or logs.readings i None some)

pub reading-beside : (logs : SavedLogs) (i : ℕ) (r : Option ZoneReading) → r ≡ get_or logs.readings i r
    → i < length logs.readings → length logs.readings ≤ length logs.zones
    → option_map (λ (s : Saved). s.1) (slice_get (saved logs) i) ≡ Some r
reading-beside logs i r at some room =
    slice_get-zip_second logs.zones logs.readings i r (omega arith)
    (slice_get-get_or logs.readings i r some ∙ ap (λ (q : Option ZoneReading). Some q) (sym at))

-- a layout has no more zones than bytes
zones-few : (zones : List Zone) → ((i : ℕ) (z : Zone) → slice_get zones i ≡ Some z → 1 ≤ z.size)
    → length zones ≤ zones_end zones
zones-few [] h = omega arith
zones-few (z ∷ zs) h = omega (
  arith,
  h 0 z refl,
  zones-few zs (λ i w e. h (suc i) w e),
  sum_by-cons (λ (w : Zone). w.size) z zs,
)

pub layout-few : (zones : List Zone) (mem : ℕ) → IsLayout zones mem → length zones ≤ mem
layout-few zones mem laid =
    let w = laid.within in omega (
      arith,
      w,
      zones-few zones
          (λ i z e. let v = (laid.valid i z e).0.at_least in omega (arith, v)),
    )

-- a part of the zone beside the i-th reading
pub zone-part : {A : Type 0} (part : Zone → A) (here logs : SavedLogs) (i : ℕ) (z : Zone) → here ≡ logs
    → z ≡ get_or here.zones i z → i < length logs.readings → length here.readings ≤ length here.zones
    → option_map (λ (s : Saved). part s.0) (slice_get (saved logs) i) ≡ Some (part z)
zone-part part here logs i z seen at below few =
    let long = ap (λ (l : SavedLogs). length l.readings) seen in
    subst (λ (l : SavedLogs). option_map (λ (s : Saved). part s.0) (slice_get (saved l) i) ≡ Some (part z)) seen
    (ap (option_map (λ (s : Saved). part s.0)) (zone-beside here i z at (omega (arith, long, below)) few))
