-- The line that erases a record
use Rattle.std.proofs.Common.{◌≡◌, ℕ, zero, suc, ◌+◌, ◌≤◌, Bool, true, false, cond, List, [], ◌∷◌, map, zip, length}
use Rattle.std.proofs.Common.{slice_get, slice_set, Option, Some, None, Ok, Err, refl, sym, ap, ◌∙◌, arith}
use Rattle.std.specs.Option.{option_map}
use Rattle.std.proofs.lemmas.List.{length-set}
use Rattle.zone_spec.specs.declared.Zone.{Zone}
use Rattle.zone_spec.specs.declared.Name.{Name}
use Rattle.zone_spec.specs.declared.ZoneName.{ZoneName}
use Rattle.zone_spec.specs.Reading.{ZoneReading}
use Rattle.zone_spec.specs.Records.{Saved, Listed, record_of}
use Rattle.zone_spec.specs.Notices.{is_in}
use Rattle.zone_spec.specs.Listing.{is_listed}
use Rattle.machine_spec.specs.States.{LiveZone, LiveState, Off as OffOf, Live as LiveOf}
use Rattle.machine_spec.specs.LiveZones.{flies}
use Rattle.machine_spec.specs.Erasures.{saved_logs, erase_zone, erased}
use Rattle.machine_laws.proofs.ListedRecords.{found_is_listed}
use Rattle.prz_read.specs.Saving.{SavedLogs, saved}
use Rattle.ramoops.specs.LiveSeen.{LiveSeen, StandsLive}
use Rattle.grammar_spec.specs.declared.line.Line.TheVariants.{Erase}
use Rattle.script_spec.specs.Scripts.{store_line, named, erases_of}
use Rattle.script_spec.specs.declared.Cause.TheVariants.{IsOff, IsLive, NoZone, Busy, Idle, OutOfImage, NoRecord}
use Rattle.script_spec.specs.declared.Cause.TheVariants.{NotHere, TooLong, NoSeat, Crowded, NoRing}
use Rattle.ram_session.specs.Erasing.{Erases, Forgets, ErasesNamed, IsBusy, EraseFails}
use Rattle.ram_session.specs.Sessions.{Live, LineDone, LineRefused, LineFails}
use Rattle.ram_session.specs.declared.machine.LineError.{LineError}
use Rattle.ram_session.specs.declared.machine.LineError.TheVariants.{Memory, Refused}
use Rattle.ram_session.proofs.RecordLines.{record_is, none_is}
use Rattle.ram_session.proofs.ErasedZones.{changed_to, all_changed, get_next, set_next, stay_next, forgetting}

-- ---- logs forgotten, one behind the other

-- the first i readings were looked at
pub record ForgetsTo (name : Name) (i : ℕ) (old now : SavedLogs) : Type 0 where
  pub zones : now.zones ≡ old.zones
  pub readings : now.readings ≡ changed_to (forgetting name) i old.zones old.readings
  pub count : length now.readings ≡ length old.readings

pub forgets_none : (logs : SavedLogs) (name : Name) → ForgetsTo name 0 logs logs
unfolding changed_to
forgets_none logs name = record { zones = refl; readings = refl; count = refl }

split_saved : (logs : SavedLogs) (i : ℕ) (name : ZoneName)
    → option_map (λ (s : Saved). s.0.name) (slice_get (saved logs) i) ≡ Some name
    → (z : Zone) × (r : Option ZoneReading) × (z.name ≡ name) × (slice_get logs.zones i ≡ Some z)
    × (slice_get logs.readings i ≡ Some r)
split_saved logs i name h = by logs.zones logs.readings i h
  where
    by : (zones : List Zone) (readings : List (Option ZoneReading)) (i : ℕ)
        → option_map (λ (s : Saved). s.0.name) (slice_get (zip zones readings) i) ≡ Some name
        → (z : Zone) × (r : Option ZoneReading) × (z.name ≡ name) × (slice_get zones i ≡ Some z)
        × (slice_get readings i ≡ Some r)
    by [] readings i h = absurd (cc)
    by (z ∷ zones) [] i h = absurd (cc)
    by (z ∷ zones) (r ∷ readings) zero h = (z, r, cc, refl, refl)
    by (z ∷ zones) (r ∷ readings) (suc i) h = by zones readings i h

module _ (old now : SavedLogs) (name : Name) (i : ℕ) (zone : ZoneName) (b : Bool) (so_far : ForgetsTo name i old now)
    (named_there : option_map (λ (s : Saved). s.0.name) (slice_get (saved now) i) ≡ Some zone)
    (belongs : (z : Zone) → z.name ≡ zone → b ≡ is_in name z) where
  pub forgets_stay : b ≡ false → ForgetsTo name (i + 1) old now
  forgets_stay is_false =
      let p = split_saved now i zone named_there in
      let out : is_in name p.0 ≡ false = sym (belongs p.0 p.2) ∙ is_false in
      let at : slice_get old.zones i ≡ Some p.0 = ap (λ (zones : List Zone). slice_get zones i) (sym so_far.zones)
      ∙ p.3 in
      let reading : slice_get old.readings i ≡ Some p.1 = sym (get_next (forgetting name) i old.zones old.readings)
      ∙ ap (λ (rs : List (Option ZoneReading)). slice_get rs i) (sym so_far.readings) ∙ p.4 in
      record {
        zones = so_far.zones;
        count = so_far.count;
        readings = so_far.readings
            ∙ stay_next (forgetting name) i old.zones old.readings p.0 p.1 at reading (rw out refl);
      }

  pub forgets_next : (next : SavedLogs) → b ≡ true → next ≡ record now { readings = slice_set now.readings i None }
      → ForgetsTo name (i + 1) old next
  forgets_next next is_true same =
      let p = split_saved now i zone named_there in
      let inside : is_in name p.0 ≡ true = sym (belongs p.0 p.2) ∙ is_true in
      let at : slice_get old.zones i ≡ Some p.0 = ap (λ (zones : List Zone). slice_get zones i) (sym so_far.zones)
      ∙ p.3 in
      let reading : slice_get old.readings i ≡ Some p.1 = sym (get_next (forgetting name) i old.zones old.readings)
      ∙ ap (λ (rs : List (Option ZoneReading)). slice_get rs i) (sym so_far.readings) ∙ p.4 in
      let gone : forgetting name (p.0, p.1) ≡ None = rw inside refl in
      let set : slice_set (changed_to (forgetting name) i old.zones old.readings) i None
      ≡ changed_to (forgetting name) (i + 1) old.zones old.readings =
      ap (λ (r : Option ZoneReading). slice_set (changed_to (forgetting name) i old.zones old.readings) i r)
      (sym gone) ∙ set_next (forgetting name) i old.zones old.readings p.0 p.1 at reading in
      rw same (record {
        zones = so_far.zones;
        count = length-set now.readings i None ∙ so_far.count;
        readings = ap (λ (rs : List (Option ZoneReading)). slice_set rs i None) so_far.readings ∙ set;
      })

zip_below : (zones : List Zone) (readings : List (Option ZoneReading)) → length (zip zones readings) ≡ length readings
    → length readings ≤ length zones
zip_below [] [] h = omega arith
zip_below [] (r ∷ readings) h = absurd (omega (arith, h))
zip_below (z ∷ zones) [] h = omega arith
zip_below (z ∷ zones) (r ∷ readings) h = omega (arith, zip_below zones readings (omega (arith, h)))

pub forgets_all : (old now : SavedLogs) (name : Name) (i n : ℕ) → n ≡ length old.readings → n ≡ length (saved old)
    → n ≤ i → ForgetsTo name i old now → Forgets name old now
forgets_all old now name i n count whole all h = record {
  zones = h.zones;
  readings = h.readings ∙ all_changed (forgetting name) i old.zones old.readings (omega (arith, count, all))
      (zip_below old.zones old.readings (sym whole ∙ count));
}

-- ---- a record's zones erased

zip_changed : (f : Saved → Option ZoneReading) (zones : List Zone) (readings : List (Option ZoneReading))
    → zip zones (map f (zip zones readings)) ≡ map (λ (pair : Saved). (pair.0, f pair)) (zip zones readings)
zip_changed f [] readings = refl
zip_changed f (z ∷ zones) [] = refl
zip_changed f (z ∷ zones) (r ∷ readings) = ap (λ rest. (z, f (z, r)) ∷ rest) (zip_changed f zones readings)

-- the saved logs beside the erased state
logs_erased : (layout : List Zone) (s : LiveState) (name : Name) (old new : SavedLogs)
    → saved old ≡ saved_logs layout s → Forgets name old new → saved new ≡ saved_logs layout (erased layout s name)
logs_erased layout s name old new same f =
    rw (f.zones, f.readings) (zip_changed (forgetting name) old.zones old.readings)
    ∙ ap (map (λ (pair : Saved). (pair.0, forgetting name pair))) same
    ∙ sym (zip_changed (forgetting name) layout s.logs)

-- the record that a name was found for
found : (o : Option Listed) (n : Name) → Some n ≡ option_map (λ (r : Listed). r.name) o
    → (r : Listed) × (o ≡ Some r) × (r.name ≡ n)
found None n h = absurd (cc)
found (Some r) n h = (r, refl, cc)

-- the machine knows nothing of the saved logs
with_logs : (layout : List Zone) (mem : ℕ) (s : LiveState) (v : LiveSeen) (logs : List (Option ZoneReading))
    → StandsLive layout mem v s → StandsLive layout mem v (record s { logs = logs })
with_logs layout mem s v logs h = record {
  same_layout = h.same_layout;
  same_mem = h.same_mem;
  spans = h.spans;
  kept = h.kept;
  count = h.count;
  zones = h.zones;
  rest = h.rest;
  cursor = h.cursor;
}

-- no record has the text, where no name was found
pub unlisted : (live : LiveSeen) (logs : SavedLogs) (text : List ℕ)
    → None ≡ option_map (λ (r : Listed). r.name) (named (saved logs) text)
    → EraseFails live logs text (Refused NoRecord)
unlisted live logs text none = none_is (saved logs) text none

module _ (live : LiveSeen) (logs : SavedLogs) (text : List ℕ) (n : Name)
    (is : Some n ≡ option_map (λ (r : Listed). r.name) (named (saved logs) text)) where
  here : (layout : List Zone) (s : LiveState) → saved logs ≡ saved_logs layout s
      → (r : Listed) × (named (saved_logs layout s) text ≡ Some r) × (r.name ≡ n)
  here layout s same =
      let f = found (named (saved logs) text) n is in
      (f.0, ap (λ (zones : List Saved). named zones text) (sym same) ∙ f.1, f.2)

  pub busy : ((layout : List Zone) (mem : ℕ) (s : LiveState) → StandsLive layout mem live s
      → true ≡ flies layout s (λ z. is_in n z)) → EraseFails live logs text (Refused Busy)
  busy flying layout mem s stands same =
      let r = here layout s same in
      (r.0, r.1, rw r.2 (sym (flying layout mem s stands)))

  pub erased_named : (w : LiveSeen) (logs' : SavedLogs)
      → ((layout : List Zone) (mem : ℕ) (s : LiveState) → StandsLive layout mem live s
      → false ≡ flies layout s (λ z. is_in n z)) → Erases n live w → Forgets n logs logs'
      → ErasesNamed live logs text w logs'
  erased_named w logs' idle erase forget layout mem s lies stands same state =
      let r = here layout s same in
      let still : flies layout s (λ z. is_in n z) ≡ false = sym (idle layout mem s stands) in
      record {
        record_is = r.0;
        named = r.1;
        idle = rw r.2 still;
        stands = rw r.2 (with_logs layout mem (record s {
          zones = map
              (λ (pair : Zone × LiveZone). erase_zone n pair.0 pair.1) (zip layout s.zones);
        }) w
            (erased layout s n).logs (erase layout mem s lies stands state still));
        logs = rw r.2 (logs_erased layout s n logs logs' same forget);
      }

-- ---- the line

erase_line : (layout : List Zone) (s : LiveState) (text : List ℕ)
    → store_line layout (LiveOf s) (Erase text) ≡ erases_of layout s (named (saved_logs layout s) text)
unfolding store_line
erase_line layout s text = refl

-- the record of the name of one that was named is that one
record_there : (zones : List Saved) (text : List ℕ) (r : Listed) → named zones text ≡ Some r
    → record_of zones r.name ≡ Some r
record_there zones text r e = sym (record_is zones text r.name (sym (ap (option_map (λ (r : Listed). r.name)) e))) ∙ e

-- so it is listed
listed_there : (zones : List Saved) (text : List ℕ) (r : Listed) → named zones text ≡ Some r
    → is_listed zones r.name ≡ true
listed_there zones text r e = found_is_listed zones r.name r (record_there zones text r e)

erase_as : (layout : List Zone) (s : LiveState) (text : List ℕ) (r : Listed) (b : Bool)
    → named (saved_logs layout s) text ≡ Some r → flies layout s (λ z. is_in r.name z) ≡ b
    → store_line layout (LiveOf s) (Erase text) ≡ cond b (Err Busy)
    (Ok (record { session = LiveOf (erased layout s r.name); text = [] }))
erase_as layout s text r true e f = erase_line layout s text
    ∙ rw (e, listed_there (saved_logs layout s) text r e, f) refl
erase_as layout s text r false e f = erase_line layout s text
    ∙ rw (e, listed_there (saved_logs layout s) text r e, f) refl

pub erase_done : (live : LiveSeen) (logs : SavedLogs) (text : List ℕ) (w : LiveSeen) (logs' : SavedLogs)
    → ErasesNamed live logs text w logs' → LineDone (Live live logs) (Erase text) (Live w logs') []
erase_done live logs text w logs' h layout mem (OffOf s) lies stands state = absurd stands
erase_done live logs text w logs' h layout mem (LiveOf s) lies stands state =
    let e = h layout mem s lies stands.0 stands.1 state in
    record {
      next = LiveOf (erased layout s e.record_is.name);
      done = erase_as layout s text e.record_is false e.named e.idle;
      stands = (e.stands, e.logs);
    }

refused_unlisted : (live : LiveSeen) (logs : SavedLogs) (text : List ℕ) → named (saved logs) text ≡ None
    → LineRefused (Live live logs) (Erase text) NoRecord
refused_unlisted live logs text none layout mem (OffOf s) lies stands state = absurd stands
refused_unlisted live logs text none layout mem (LiveOf s) lies stands state =
    let gone : named (saved_logs layout s) text ≡ None = ap (λ (zones : List Saved). named zones text) (sym stands.1)
    ∙ none in
    erase_line layout s text ∙ ap (erases_of layout s) gone

refused_busy : (live : LiveSeen) (logs : SavedLogs) (text : List ℕ) → IsBusy live logs text
    → LineRefused (Live live logs) (Erase text) Busy
refused_busy live logs text h layout mem (OffOf s) lies stands state = absurd stands
refused_busy live logs text h layout mem (LiveOf s) lies stands state =
    let b = h layout mem s stands.0 stands.1 in
    erase_as layout s text b.0 true b.1 b.2

pub erase_refused : (live : LiveSeen) (logs : SavedLogs) (text : List ℕ) (e : LineError) → EraseFails live logs text e
    → LineFails (Live live logs) (Erase text) e
erase_refused live logs text Memory h = absurd h
erase_refused live logs text (Refused NoRecord) h = refused_unlisted live logs text h
erase_refused live logs text (Refused Busy) h = refused_busy live logs text h
erase_refused live logs text (Refused IsOff) h = absurd h
erase_refused live logs text (Refused IsLive) h = absurd h
erase_refused live logs text (Refused NoZone) h = absurd h
erase_refused live logs text (Refused Idle) h = absurd h
erase_refused live logs text (Refused OutOfImage) h = absurd h
erase_refused live logs text (Refused NotHere) h = absurd h
erase_refused live logs text (Refused TooLong) h = absurd h
erase_refused live logs text (Refused NoSeat) h = absurd h
erase_refused live logs text (Refused Crowded) h = absurd h
erase_refused live logs text (Refused NoRing) h = absurd h
