-- The logs that a boot finds are of bytes, and of one at least
use Rattle.std.proofs.Common.{◌≡◌, ℕ, zero, suc, ◌+◌, ◌/◌, ◌%◌, ◌<◌, ◌≤◌, List, [], ◌∷◌, length, map, slice_get, refl}
use Rattle.std.proofs.Common.{sym, ◌∙◌, subst, arith, inl, inr, Option, Some, None, eq-eqb}
use Rattle.std.specs.Prelude.{zip}
use Rattle.std.specs.List.{AllByRecursion}
use Rattle.std.proofs.lemmas.Bool.{cases_eq}
use Rattle.std.proofs.lemmas.List.{length-map}
use Rattle.zone_spec.specs.declared.Zone.{Zone}
use Rattle.zone_spec.specs.declared.Words.{Words}
use Rattle.zone_spec.specs.declared.State.{State}
use Rattle.zone_spec.specs.declared.State.TheVariants.{Unsigned, Empty, Invalid, Found}
use Rattle.zone_spec.specs.Parts.{AreBytes, Block}
use Rattle.zone_spec.specs.PartReadings.{words_read}
use Rattle.zone_spec.specs.Reading.{ZoneReading, zone_reading, reading_in, state_of, log_places, log_read, byte_read}
use Rattle.zone_spec.specs.Records.{Saved, found_in, found}
use Rattle.machine_spec.specs.Zones.{zone_bytes}
use Rattle.machine_spec.specs.Boot.{booted}
use Rattle.machine_spec.specs.Erasures.{saved_logs}
use Rattle.ring_laws.proofs.BootLaw.{length-reading}
use Rattle.ring_laws.proofs.PartsLaw.{slice_range-bytes}
use Rattle.ring_laws.proofs.RingBytes.{length-log_places}
use Rattle.ring_laws.proofs.States.{Says, state_says, reading_is}
use Rattle.machine_laws.proofs.Lists.{bytes-none}
use Rattle.move_laws.specs.Listed.{IsOfBytes, BootsHaveBytes, ImageLogsFit, MoveKeepsRecords}
use Rattle.move_laws.proofs.Fits.{fitting_logs_fit}
use Rattle.move_laws.proofs.Order.{move_lists_what_fits}

map_bytes : (f : ℕ → ℕ) (xs : List ℕ) → ((p : ℕ) → f p < 256) → AreBytes (map f xs)
map_bytes f [] h i = bytes-none i
map_bytes f (x ∷ xs) h zero = h x
map_bytes f (x ∷ xs) h (suc i) = map_bytes f xs h i

-- a zone that was found has a size
some_size : (z : Zone) (w : Words) → state_of z w ≡ Found → (0 < w.size) × (w.start ≤ w.size)
some_size z w e =
    let says : Says z w Found = subst (Says z w) e (state_says z w) in
    elim (cases_eq w.size 0) [
      | inl a ↦ (let b : w.start ≡ 0 = (let l : w.start ≤ w.size = says.2 in omega (arith, a, l)) in
          let empty : state_of z w ≡ Empty =
          rw (eq-eqb w.sig z.sig says.0, eq-eqb w.size 0 a, eq-eqb w.start 0 b) refl in
          let same : Empty ≡ Found = sym empty ∙ e in
          let n : ◌≡◌ {A = ℕ} 0 1 = cc in absurd (omega (arith, n)))
      | inr b ↦ ((let l : w.start ≤ w.size = says.2 in omega (arith, b)), says.2)
    ]

abbrev IsSavedWell : ZoneReading → Type 0
IsSavedWell r = AllByRecursion IsOfBytes (found_in r r.state)

saved_well : (z : Zone) (image : List ℕ) → AreBytes image → IsSavedWell (zone_reading z image)
saved_well z image bytes = subst IsSavedWell (sym (reading_is z image)) (by (state_of z (words_read z image)) refl)
  where
    by : (s : State) → state_of z (words_read z image) ≡ s → IsSavedWell (reading_in z image (words_read z image) s)
    by Unsigned e = tt
    by Empty e = tt
    by Invalid e = tt
    by Found e =
        let w : Words = words_read z image in
        let size = some_size z w e in
        let len : length (log_read z image w) ≡ w.size =
        length-map (log_places w.start w.size) (λ place. byte_read z image place)
        ∙ length-log_places w.start w.size size.1 in (
          (
            omega (arith, len, size.0),
            map_bytes (λ place. byte_read z image place) (log_places w.start w.size)
                (λ p. (length-reading z image (Block (p / z.block)) bytes).1 (p % z.block)),
          ),
          tt,
        )

pub zip_at : (g : Zone → Option ZoneReading) (zs : List Zone) (i : ℕ) (s : Saved)
    → slice_get (zip zs (map g zs)) i ≡ Some s → (z : Zone) × (slice_get zs i ≡ Some z) × ((z, g z) ≡ s)
zip_at g [] i s e = let n : None ≡ Some s = e in cc
zip_at g (z ∷ zs) zero s e = (z, refl, (let h : (z, g z) ≡ s = cc in h))
zip_at g (z ∷ zs) (suc i) s e = zip_at g zs i s e

pub boots_have_bytes : BootsHaveBytes
boots_have_bytes layout off bytes i zone e =
    let at = zip_at (λ z. Some (zone_reading z (zone_bytes z off.image))) layout i zone e in
    subst (λ (s : Saved). AllByRecursion IsOfBytes (found s.1)) at.2
    (saved_well at.0 (zone_bytes at.0 off.image)
    (slice_range-bytes off.image at.0.at (at.0.at + at.0.size) bytes))

pub image_logs_fit : ImageLogsFit
image_logs_fit old new off are bytes =
    fitting_logs_fit new (saved_logs old (booted old off)) are (boots_have_bytes old off bytes)

pub move_keeps_records : MoveKeepsRecords
move_keeps_records old new mem off lies are bytes order =
    move_lists_what_fits new mem (saved_logs old (booted old off)) lies are (boots_have_bytes old off bytes) order
