-- A moved image makes a sound state, each zone of which is told the log that was found of it, and reads it
use Rattle.std.proofs.Common.{◌≡◌, ℕ, zero, suc, ◌+◌, ◌-◌, ◌≤◌, List, [], ◌∷◌, ◌++◌, length, take, drop, flat_map}
use Rattle.std.proofs.Common.{slice_get, replicate, refl, sym, ap, ap₂, ◌∙◌, subst, arith, Some, append_assoc, take_at}
use Rattle.std.proofs.Common.{length-drop}
use Rattle.std.specs.Prelude.{fold}
use Rattle.std.proofs.lemmas.List.{drop-drop, length-replicate}
use Rattle.std.proofs.lemmas.List.Sums.{sum_by-cons}
use Rattle.std.specs.Option.{option_map}
use Rattle.std.proofs.Math.Seq.{drop-append_seam}
use Rattle.zone_spec.specs.declared.Zone.{Zone}
use Rattle.zone_spec.specs.declared.Words.{Words}
use Rattle.zone_spec.specs.Zones.{IsValidZone}
use Rattle.zone_spec.specs.PartReadings.{words_read}
use Rattle.zone_spec.specs.Ring.{IsRingForm}
use Rattle.zone_spec.specs.Parts.{IsImage}
use Rattle.zone_spec.specs.Reading.{ZoneReading}
use Rattle.zone_spec.specs.Records.{Saved}
use Rattle.zone_spec.specs.Layouts.{IsLayout, zones_end}
use Rattle.machine_spec.specs.Zones.{EachZone, zone_bytes}
use Rattle.machine_spec.specs.States.{LiveZone, LiveState, Off, Live}
use Rattle.machine_spec.specs.Off.{fresh}
use Rattle.machine_spec.specs.Boot.{booted, booted_zone}
use Rattle.machine_spec.specs.Stop.{cut_of, zone_stopped, live_image}
use Rattle.machine_spec.specs.Moved.{found_of, with_log, refilled, moved}
use Rattle.machine_spec.specs.Sound.{IsOffZone, IsState}
use Rattle.machine_spec.specs.Headline.{EachOffZone}
use Rattle.ring_laws.specs.Laws.{ReadsTold}
use Rattle.ring_laws.proofs.Laws.{ring_form_reads_told}
use Rattle.ring_laws.proofs.States.{reading_words}
use Rattle.ring_laws.proofs.EveryParity.{part-bytes}
use Rattle.machine_laws.proofs.Lists.{each-map, each-zip-map, zone_within}
use Rattle.machine_laws.proofs.LiveStates.{live_state}
use Rattle.machine_laws.proofs.OffStates.{stopped-state}
use Rattle.machine_laws.proofs.ZoneReads.{sound_state_reads_zones}
use Rattle.move_laws.specs.Moves.{log_of, LogsFit, IsToldLog, ReadsLog, MovedImageIsSound, MovedZonesAreTold}
use Rattle.move_laws.specs.Moves.{MovedImageReads, MovedZonesRead}
use Rattle.move_laws.proofs.Blank.{zeros, zeros_bytes, booted_codes, blank_zone_is_told_nothing}
use Rattle.move_laws.proofs.FreshZones.{IsTold, ring_of, filled}
use Rattle.move_laws.proofs.Codes.{HasCodes}
use Rattle.move_laws.proofs.Counts.{counts_none}

-- ---- the zones' bytes end to end

-- the i-th zone's bytes are where those of the zones before it end
images_at : (zs : List Zone) (vs : List LiveZone) (rest : List ℕ) (i : ℕ) (z : Zone) (v : LiveZone)
    → EachZone zs vs (λ z v. IsImage z v.image) → slice_get zs i ≡ Some z → slice_get vs i ≡ Some v
    → take z.size (drop (zones_end (take i zs)) (flat_map (λ (w : LiveZone). w.image) vs ++ rest)) ≡ v.image
images_at [] vs rest i z v each hz hv = let n : ◌≡◌ {A = ℕ} 0 1 = cc in absurd (omega (arith, n))
images_at (y ∷ ys) [] rest i z v each hz hv = let n : ◌≡◌ {A = ℕ} 0 1 = cc in absurd (omega (arith, n))
images_at (y ∷ ys) (w ∷ ws) rest zero z v each hz hv =
    let s : y ≡ z = cc in
    let t : w ≡ v = cc in
    let here : IsImage z w.image = subst (λ x. IsImage x w.image) s (each.1 0 y w refl refl) in
    ap (take z.size) (append_assoc w.image (flat_map (λ (u : LiveZone). u.image) ws) rest)
    ∙ take_at w.image (flat_map (λ (u : LiveZone). u.image) ws ++ rest) z.size here.0
    ∙ ap (λ (u : LiveZone). u.image) t
images_at (y ∷ ys) (w ∷ ws) rest (suc i) z v each hz hv =
    let here : IsImage y w.image = each.1 0 y w refl refl in
    let tail : List ℕ = flat_map (λ (u : LiveZone). u.image) ws ++ rest in
    let n : zones_end (take (suc i) (y ∷ ys)) ≡ length w.image + zones_end (take i ys) =
    omega (arith, here.0, sum_by-cons (λ (x : Zone). x.size) y (take i ys)) in
    let d : drop (zones_end (take (suc i) (y ∷ ys))) ((w.image ++ flat_map (λ (u : LiveZone). u.image) ws) ++ rest)
    ≡ drop (zones_end (take i ys)) tail =
    ap₂ drop n (append_assoc w.image (flat_map (λ (u : LiveZone). u.image) ws) rest)
    ∙ sym (drop-drop (zones_end (take i ys)) (length w.image) (w.image ++ tail))
    ∙ ap (drop (zones_end (take i ys))) (drop-append_seam w.image tail) in
    ap (take z.size) d
    ∙ images_at ys ws rest i z v (omega (arith, each.0), λ j x u hx hu. each.1 (suc j) x u hx hu) hz hv

-- ---- a zone that was told its log

told_reads : (z : Zone) (v : LiveZone) (zones : List Saved) → IsValidZone z → IsTold z v (log_of zones z)
    → ReadsLog zones z v.image
told_reads z v zones valid is =
    let ring : IsRingForm z v.image (log_of zones z) = ring_of z valid v (log_of zones z) is in
    let reads : ReadsTold z v.image (log_of zones z) = ring_form_reads_told z v.image (log_of zones z) valid ring in
    let size : (words_read z v.image).size ≡ length (log_of zones z) =
    ap (λ (w : Words). w.size) (sym (reading_words z v.image) ∙ reads.words) ∙ ring.told_length in
    let none = counts_none z v.image valid (subst (HasCodes z v.image) (sym size) is.codes) in
    record { log = reads.log; state = reads.state; corrected = none.0; bad = none.1 }

-- ---- the moved image

module _ (layout : List Zone) (mem : ℕ) (zones : List Saved) (lies : IsLayout layout mem)
    (fit : LogsFit layout zones) where
  -- the store before the stop
  abbrev told_store : LiveState
  told_store = refilled layout zones (booted layout (fresh layout (replicate mem 0)))

  booted_told : EachZone layout (booted layout (fresh layout (replicate mem 0))).zones (λ z zone. IsTold z zone [])
  booted_told = each-map layout (λ z zone. IsTold z zone []) (booted_zone (replicate mem 0)) (λ i z h.
      (let fits : z.at + z.size ≤ mem = omega (arith, (lies.valid i z h).1, zone_within layout i z h, lies.within) in
      let b = blank_zone_is_told_nothing z mem (lies.valid i z h).0 fits in
      record {
        sound = b.0;
        idle = b.1;
        told_is = b.2;
        codes = booted_codes z mem (lies.valid i z h).0 fits;
      }))

  store_told : EachZone layout told_store.zones (λ z zone. IsTold z zone (log_of zones z))
  store_told = each-zip-map layout (booted layout (fresh layout (replicate mem 0))).zones
      (λ z zone. IsTold z zone []) (λ z zone. IsTold z zone (log_of zones z))
      (λ (pair : Zone × LiveZone). fold (λ zone (r : ZoneReading). with_log pair.0 zone r.log) pair.1
      (found_of zones pair.0))
      (λ i z v hz hv is. filled z (lies.valid i z hz).0 (found_of zones z) v (fit i z hz) is) booted_told

  store_sound : IsState layout mem (Live told_store)
  store_sound = live_state layout mem lies told_store
      (store_told.0, λ i z v hz hv. (store_told.1 i z v hz hv).sound)
      (omega (
        arith,
        lies.within,
        length-replicate {A = ℕ} mem 0,
        length-drop {A = ℕ} (zones_end layout) (replicate mem 0),
      ))
      (part-bytes (zones_end layout) (replicate mem 0) (zeros_bytes (replicate mem 0) (zeros mem))).1

  pub moved-sound : IsState layout mem (Off (moved layout mem zones))
  moved-sound = stopped-state layout mem lies told_store store_sound

  -- each zone's bytes stand in the image
  zone_stands : (i : ℕ) (z : Zone) (v : LiveZone) → slice_get layout i ≡ Some z → slice_get told_store.zones i ≡ Some v
      → zone_bytes z (live_image told_store) ≡ v.image
  zone_stands i z v hz hv =
      let n : (z.at + z.size) - z.at ≡ z.size = omega arith in
      ap₂ (λ n d. take n (drop d (live_image told_store))) n (lies.valid i z hz).1
      ∙ images_at layout told_store.zones told_store.rest i z v
      (store_told.0, λ j x u hx hu. (store_told.1 j x u hx hu).sound.size) hz hv

  pub moved-told : EachOffZone layout (moved layout mem zones) (IsToldLog zones)
  moved-told = each-zip-map layout told_store.zones (λ z zone. IsTold z zone (log_of zones z))
      (λ z zone. IsToldLog zones z zone (zone_bytes z (live_image told_store))) zone_stopped
      (λ i z v hz hv is. record {
        told = ap Some is.told_is;
        cut = ap (option_map (cut_of z)) is.idle;
        stop = sym (zone_stands i z v hz hv);
      }) store_told

  -- each zone reads its log
  pub moved-reads : EachOffZone layout (moved layout mem zones) (λ z zone now. ReadsLog zones z now)
  moved-reads = each-zip-map layout told_store.zones (λ z zone. IsTold z zone (log_of zones z))
      (λ z zone. ReadsLog zones z (zone_bytes z (live_image told_store))) zone_stopped
      (λ i z v hz hv is. subst (ReadsLog zones z) (sym (zone_stands i z v hz hv))
      (told_reads z v zones (lies.valid i z hz).0 is)) store_told

pub moved_image_is_sound : MovedImageIsSound
moved_image_is_sound layout mem zones lies fit = moved-sound layout mem zones lies fit

pub moved_zones_are_told : MovedZonesAreTold
moved_zones_are_told layout mem zones lies fit = moved-told layout mem zones lies fit

pub moved_image_reads : MovedImageReads
moved_image_reads layout mem zones lies fit = moved-reads layout mem zones lies fit

pub moved_zones_read : MovedZonesRead
moved_zones_read layout mem zones off lies fit same memory =
    let state : IsState layout mem (Off off) = record {
      zones = subst (λ zs. EachZone layout zs IsOffZone) (sym same) (moved-sound layout mem zones lies fit).zones;
      image = memory;
    } in
    let reads = sound_state_reads_zones layout mem off lies state in (
      reads.0,
      λ i z zone hz hv within.
          let is = (moved-told layout mem zones lies fit).1 i z zone hz
          (ap (λ zs. slice_get zs i) (sym same) ∙ hv) in
          (reads.1 i z zone hz hv).last_written.idle (log_of zones z) is.told is.cut within,
    )
