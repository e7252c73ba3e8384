-- A zone that is told nothing yet, and is told the logs that were found of it
use Rattle.std.proofs.Common.{◌≡◌, ℕ, ◌+◌, ◌-◌, ◌%◌, ◌<◌, ◌≤◌, ◌==◌, min, Bool, true, false, cond, not, ◌&&◌, is_some}
use Rattle.std.proofs.Common.{nat_lt, List, [], ◌∷◌, ◌++◌, length, map, take, drop, refl, sym, ap, ◌∙◌, subst, arith}
use Rattle.std.proofs.Common.{Some, None}
use Rattle.std.specs.Prelude.{fold, find, unwrap_or}
use Rattle.std.specs.List.{AllByRecursion}
use Rattle.std.proofs.lemmas.Bool.Decides.{nat_tests}
use Rattle.std.proofs.lemmas.Bool.{cond-false}
use Rattle.list_laws.proofs.Tests.{eqb_zero_from_lt}
use Rattle.zone_spec.specs.declared.Zone.{Zone}
use Rattle.zone_spec.specs.Zones.{IsValidZone}
use Rattle.zone_spec.specs.Parts.{AreBytes, Header, standing_words}
use Rattle.zone_spec.specs.Reading.{ZoneReading}
use Rattle.zone_spec.specs.Ring.{IsRingForm, IsOpen}
use Rattle.zone_spec.specs.Stages.{Stage, StartWord, SizeWord, ParityOf, stage_stores, stores_in_turn}
use Rattle.zone_spec.specs.declared.Words.{Words}
use Rattle.zone_spec.specs.Calls.{CanBegin, call_stores, append_stages, run_stages, image_after}
use Rattle.zone_spec.specs.Told.{Append, last_items}
use Rattle.machine_spec.specs.States.{LiveZone}
use Rattle.machine_spec.specs.ZoneCalls.{begun, finished, stepped_by, stores_left}
use Rattle.machine_spec.specs.Moved.{is_blank, with_log}
use Rattle.machine_spec.specs.Sound.{Stands, IsLiveZone}
use Rattle.ring_laws.proofs.RingLaw.{last_items-short}
use Rattle.machine_laws.proofs.Zones.{begun-sound, finished-sound}
use Rattle.move_laws.specs.Moves.{IsLogFor}
use Rattle.move_laws.proofs.Codes.{HasCodes, append_codes}

-- a zone after a boot of zeros and some logs: sound, in no flight, told this list, and its header and its
-- log are codewords
pub record IsTold (z : Zone) (zone : LiveZone) (told : List ℕ) : Type 0 where
  pub sound : IsLiveZone z zone
  pub idle : zone.flight ≡ None
  pub told_is : zone.told ≡ told
  pub codes : HasCodes z zone.image (length told)

-- ---- tests

-- ---- an append has stores

turn_some : (z : Zone) (image : List ℕ) (t : Bool) (n m : ℕ) (gs hs ks : List Stage)
    → 0 < length (stores_in_turn z (cond t [] (SizeWord n ∷ []) ++ StartWord m ∷ [] ++ gs ++ hs ++ ks ++ []) image)
unfolding stores_in_turn stage_stores
turn_some z image true n m gs hs ks = omega arith
turn_some z image false n m gs hs ks = omega arith

some_stores : (z : Zone) (image : List ℕ) (b : ℕ) (bs : List ℕ) → last_items z.cap (b ∷ bs) ≡ b ∷ bs
    → (length (call_stores z (Append (b ∷ bs)) image) == 0) ≡ false
unfolding call_stores
some_stores z image b bs e =
    let w : Words = standing_words z image in
    let q : List ℕ = b ∷ bs in
    eqb_zero_from_lt _ (subst (λ xs. 0 < length (stores_in_turn z (append_stages z w.start w.size xs ++ []) image))
    (sym e)
    (turn_some z image (w.size == z.cap) (min z.cap (w.size + length q)) ((w.start + length q) % z.cap)
    (run_stages z w.start (take (z.cap - w.start) q)) (run_stages z 0 (drop (z.cap - w.start) q))
    (ParityOf Header ∷ [])))

no_stores : (z : Zone) (image : List ℕ) → (length (call_stores z (Append []) image) == 0) ≡ true
unfolding call_stores stores_in_turn
no_stores z image =
    let w : Words = standing_words z image in
    ap (λ xs. length (stores_in_turn z (append_stages z w.start w.size xs ++ []) image) == 0)
    (last_items-short z.cap [] (omega arith))

-- ---- one log

module _ (z : Zone) (valid : IsValidZone z) where
  open_empty : (bytes : List ℕ) → IsRingForm z bytes [] → IsOpen (standing_words z bytes) z.cap
  open_empty bytes ring =
      let size : (standing_words z bytes).size ≡ 0 = ring.told_length in
      let below : (standing_words z bytes).start ≤ (standing_words z bytes).size = ring.ring.0 in
      (omega (arith, size, below, valid.room), λ h. omega (arith, size, below))

  pub ring_of : (zone : LiveZone) (told : List ℕ) → IsTold z zone told → IsRingForm z zone.image told
  ring_of zone told is = subst (λ t. IsRingForm z zone.image t) is.told_is
      (subst (Stands z zone.image zone.told) is.idle is.sound.stands)

  can_append : (zone : LiveZone) (log : List ℕ) → AreBytes log → IsTold z zone []
      → CanBegin z zone.image (Append log)
  can_append zone log bytes is = (open_empty zone.image (ring_of zone [] is), bytes)

  ended : (zone : LiveZone) (log : List ℕ)
      → finished z (record zone { flight = Some (record { image = zone.image; call = Append log; made = 0 }) })
      ≡ record {
        image = image_after z (Append log) zone.image (length (call_stores z (Append log) zone.image));
        told = last_items z.cap (zone.told ++ log);
        flight = None;
      }
  ended zone log =
      let n : ℕ = length (call_stores z (Append log) zone.image) in
      cond-false (nat_lt (0 + (n - 0)) n) _ _ (grind (arith, nat_tests))

  stays_idle : (zone : LiveZone) → zone.flight ≡ None → finished z zone ≡ zone
  stays_idle zone e = ap (λ o. stepped_by o z (stores_left o z) zone) e

  blank_is : (zone : LiveZone) (log : List ℕ) → IsTold z zone []
      → with_log z zone log ≡ finished z (begun z (Append log) zone)
  blank_is zone log is =
      let blank : is_blank zone ≡ true = rw (is.idle, is.told_is) refl in
      ap (λ t. cond t (finished z (begun z (Append log) zone)) zone) blank

  -- a zone that is told nothing yet stays so after an append of no bytes
  told_none : (zone : LiveZone) → IsTold z zone [] → with_log z zone [] ≡ zone
  told_none zone is = blank_is zone [] is ∙ ap (λ t. finished z (cond t zone (record zone {
    flight = Some (record { image = zone.image; call = Append []; made = 0 });
  }))) (no_stores z zone.image) ∙ stays_idle zone is.idle

  -- and is told the bytes of another
  told_some : (zone : LiveZone) (b : ℕ) (bs : List ℕ) → AreBytes (b ∷ bs) → length (b ∷ bs) ≤ z.cap → IsTold z zone []
      → IsTold z (with_log z zone (b ∷ bs)) (b ∷ bs)
  told_some zone b bs bytes fits is =
      let log : List ℕ = b ∷ bs in
      let ring : IsRingForm z zone.image [] = ring_of zone [] is in
      let size : (standing_words z zone.image).size ≡ 0 = ring.told_length in
      let start : (standing_words z zone.image).start ≡ 0 =
      (let below : (standing_words z zone.image).start ≤ (standing_words z zone.image).size = ring.ring.0 in
      omega (arith, size, below)) in
      let go : begun z (Append log) zone ≡ record zone {
        flight = Some (record { image = zone.image; call = Append log; made = 0 });
      } = cond-false (length (call_stores z (Append log) zone.image) == 0) _ _
      (some_stores z zone.image b bs (last_items-short z.cap log fits)) in
      let new : finished z (begun z (Append log) zone) ≡ record {
        image = image_after z (Append log) zone.image (length (call_stores z (Append log) zone.image));
        told = last_items z.cap (zone.told ++ log);
        flight = None;
      } = ap (finished z) go ∙ ended zone log in
      subst (λ v. IsTold z v log) (sym (blank_is zone log is)) (record {
        sound = finished-sound z valid (begun z (Append log) zone)
            (begun-sound z valid zone (Append log) is.sound is.idle (can_append zone log bytes is));
        idle = ap (λ (v : LiveZone). v.flight) new;
        told_is = ap (λ (v : LiveZone). v.told) new ∙ ap (λ t. last_items z.cap (t ++ log)) is.told_is
            ∙ last_items-short z.cap log fits;
        codes = subst (λ y. HasCodes z y (length log)) (sym (ap (λ (v : LiveZone). v.image) new))
            (append_codes z valid zone.image b bs fits is.sound.size bytes start size);
      })

  -- one that was told bytes stays
  told_stays : (zone : LiveZone) (b : ℕ) (bs log : List ℕ) → zone.told ≡ b ∷ bs → with_log z zone log ≡ zone
  told_stays zone b bs log told =
      let taken : is_blank zone ≡ false = rw told (by (is_some zone.flight)) in
      ap (λ t. cond t (finished z (begun z (Append log) zone)) zone) taken
    where
      by : (t : Bool) → (not t && (length (b ∷ bs) == 0)) ≡ false
      by true = refl
      by false = eqb_zero_from_lt (length (b ∷ bs)) (omega arith)

  all_stay : (zone : LiveZone) (b : ℕ) (bs : List ℕ) (rs : List ZoneReading) → zone.told ≡ b ∷ bs
      → fold (λ v (r : ZoneReading). with_log z v r.log) zone rs ≡ zone
  all_stay zone b bs [] told = refl
  all_stay zone b bs (r ∷ rs) told =
      let e : with_log z zone r.log ≡ zone = told_stays zone b bs r.log told in
      ap (λ v. fold (λ v (r : ZoneReading). with_log z v r.log) v rs) e ∙ all_stay zone b bs rs told

  -- ---- all logs

  abbrev first_log : List ZoneReading → List ℕ
  first_log rs = unwrap_or (find (λ (log : List ℕ). not (length log == 0)) (map (λ (r : ZoneReading). r.log) rs)) []

  first_none : (r : ZoneReading) (rs : List ZoneReading) → r.log ≡ [] → first_log (r ∷ rs) ≡ first_log rs
  first_none r rs e = rw e refl

  first_some : (r : ZoneReading) (rs : List ZoneReading) (b : ℕ) (bs : List ℕ) → r.log ≡ b ∷ bs
      → first_log (r ∷ rs) ≡ r.log
  first_some r rs b bs e =
      let n : (length (b ∷ bs) == 0) ≡ false = eqb_zero_from_lt (length (b ∷ bs)) (omega arith) in rw (e, n) refl

  pub filled : (rs : List ZoneReading) (zone : LiveZone) → AllByRecursion (IsLogFor z) rs → IsTold z zone []
      → IsTold z (fold (λ v (r : ZoneReading). with_log z v r.log) zone rs) (first_log rs)
  filled [] zone fit is = is
  filled (r ∷ rs) zone fit is = by r.log refl (λ next. filled rs (with_log z zone r.log) fit.1 next)
    where
      by : (log : List ℕ) → r.log ≡ log
          → (IsTold z (with_log z zone r.log) []
          → IsTold z (fold (λ v (r : ZoneReading). with_log z v r.log) (with_log z zone r.log) rs) (first_log rs))
          → IsTold z (fold (λ v (r : ZoneReading). with_log z v r.log) (with_log z zone r.log) rs) (first_log (r ∷ rs))
      by [] e rest =
          let stays : with_log z zone r.log ≡ zone = ap (with_log z zone) e ∙ told_none zone is in
          subst (IsTold z _) (sym (first_none r rs e)) (rest (subst (λ v. IsTold z v []) (sym stays) is))
      by (b ∷ bs) e rest =
          let next : IsTold z (with_log z zone r.log) r.log = subst (λ log. IsTold z (with_log z zone log) log) (sym e)
          (told_some zone b bs (subst AreBytes e fit.0.1) (subst (λ log. length log ≤ z.cap) e fit.0.0) is) in
          subst (IsTold z _) (sym (first_some r rs b bs e))
          (subst (λ v. IsTold z v r.log) (sym (all_stay (with_log z zone r.log) b bs rs (next.told_is ∙ e))) next)
