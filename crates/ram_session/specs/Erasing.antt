-- The zones of a record erased, and their saved logs forgotten
use Rattle.std.specs.Prelude.{◌≡◌, ℕ, Bool, true, false, ◌&&◌, is_some, if◌then◌else◌, List, map, zip, slice_get}
use Rattle.std.specs.Prelude.{slice_set, Some, None}
use Rattle.zone_spec.specs.declared.Zone.{Zone}
use Rattle.zone_spec.specs.declared.Name.{Name}
use Rattle.zone_spec.specs.Layouts.{IsLayout}
use Rattle.zone_spec.specs.Records.{Saved, Listed}
use Rattle.zone_spec.specs.Notices.{is_in}
use Rattle.machine_spec.specs.States.{LiveZone, LiveState, Live}
use Rattle.machine_spec.specs.Sound.{IsState}
use Rattle.machine_spec.specs.LiveZones.{flies}
use Rattle.machine_spec.specs.Erasures.{saved_logs, erase_zone, erased}
use Rattle.prz_read.specs.Saving.{SavedLogs, saved}
use Rattle.ramoops.specs.LiveSeen.{LiveSeen, StandsLive}
use Rattle.grammar_spec.specs.Fields.{Text}
use Rattle.script_spec.specs.Scripts.{named}
use Rattle.script_spec.specs.declared.Cause.TheVariants.{NoRecord, Busy}
use Rattle.ram_session.specs.declared.machine.LineError.{LineError}
use Rattle.ram_session.specs.declared.machine.LineError.TheVariants.{Memory, Refused}

-- whether the i-th zone belongs to the record and a flight stands in it
abbrev pub FliesAt : ℕ → Name → LiveSeen → Bool → Type 0
FliesAt i name v b = (layout : List Zone) (mem : ℕ) (s : LiveState) (z : Zone) (l : LiveZone)
    → StandsLive layout mem v s → slice_get layout i ≡ Some z → slice_get s.zones i ≡ Some l
    → b ≡ (is_in name z && is_some l.flight)

-- the machine stands for a sound state
pub record StandsAsState (layout : List Zone) (mem : ℕ) (v : LiveSeen) (s : LiveState) : Type 0 where
  pub stands : StandsLive layout mem v s
  pub state : IsState layout mem (Live s)

-- the i-th zone was erased where it belongs to the record, in every state for which the machine stood and in which no
-- flight is in the way
abbrev pub ErasesAt : ℕ → Name → LiveSeen → LiveSeen → Type 0
ErasesAt i name old new = (layout : List Zone) (mem : ℕ) (s : LiveState) (z : Zone) (l : LiveZone)
    → IsLayout layout mem → StandsLive layout mem old s → IsState layout mem (Live s)
    → slice_get layout i ≡ Some z → slice_get s.zones i ≡ Some l → (is_in name z && is_some l.flight) ≡ false
    → StandsAsState layout mem new (record s { zones = slice_set s.zones i (erase_zone name z l) })

-- in every state for which the machine stood, and in which no flight stands in the record's zones, they were erased
abbrev pub Erases : Name → LiveSeen → LiveSeen → Type 0
Erases name old new = (layout : List Zone) (mem : ℕ) (s : LiveState) → IsLayout layout mem
    → StandsLive layout mem old s → IsState layout mem (Live s) → flies layout s (λ z. is_in name z) ≡ false
    → StandsLive layout mem new (record s {
      zones = map (λ (pair : Zone × LiveZone). erase_zone name pair.0 pair.1)
          (zip layout s.zones);
    })

-- the readings of the record's zones were forgotten
pub record Forgets (name : Name) (old new : SavedLogs) : Type 0 where
  pub zones : new.zones ≡ old.zones
  pub readings : new.readings ≡ map (λ (pair : Saved). if is_in name pair.0 then None else pair.1) (saved old)

-- the listed record whose name has a text was erased
pub record ErasedRecord (layout : List Zone) (mem : ℕ) (s : LiveState) (text : Text) (v : LiveSeen)
    (kept : SavedLogs) : Type 0 where
  pub record_is : Listed
  pub named : named (saved_logs layout s) text ≡ Some record_is
  pub idle : flies layout s (λ z. is_in record_is.name z) ≡ false
  pub stands : StandsLive layout mem v (erased layout s record_is.name)
  pub logs : saved kept ≡ saved_logs layout (erased layout s record_is.name)

-- it was so of every state for which the machine and its saved logs stood
abbrev pub ErasesNamed : LiveSeen → SavedLogs → Text → LiveSeen → SavedLogs → Type 0
ErasesNamed v logs text w logs' = (layout : List Zone) (mem : ℕ) (s : LiveState) → IsLayout layout mem
    → StandsLive layout mem v s → saved logs ≡ saved_logs layout s → IsState layout mem (Live s)
    → ErasedRecord layout mem s text w logs'

-- a flight stands in a zone of the listed record whose name has a text
abbrev pub IsBusy : LiveSeen → SavedLogs → Text → Type 0
IsBusy v logs text = (layout : List Zone) (mem : ℕ) (s : LiveState) → StandsLive layout mem v s
    → saved logs ≡ saved_logs layout s → (r : Listed) × (named (saved_logs layout s) text ≡ Some r)
    × (flies layout s (λ z. is_in r.name z) ≡ true)

-- why none was erased
abbrev pub EraseFails : LiveSeen → SavedLogs → Text → LineError → Type 0
EraseFails v logs text Memory = ⊥
EraseFails v logs text (Refused NoRecord) = named (saved logs) text ≡ None
EraseFails v logs text (Refused Busy) = IsBusy v logs text
EraseFails v logs text (Refused cause) = ⊥
