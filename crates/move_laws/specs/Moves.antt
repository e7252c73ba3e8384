-- A moved image: its zones are told the logs that were found of them, and read those
use Rattle.std.specs.Prelude.{◌≡◌, ℕ, ◌+◌, ◌≤◌, not, ◌==◌, if◌then◌else◌, List, [], length, map, find, replicate}
use Rattle.std.specs.Prelude.{slice_get, Some, None, unwrap_or}
use Rattle.std.specs.List.{AllByRecursion}
use Rattle.zone_spec.specs.declared.Zone.{Zone}
use Rattle.zone_spec.specs.declared.State.TheVariants.{Empty, Found}
use Rattle.zone_spec.specs.Zones.{IsValidZone}
use Rattle.zone_spec.specs.Parts.{AreBytes}
use Rattle.zone_spec.specs.Reading.{ZoneReading, zone_reading}
use Rattle.zone_spec.specs.Records.{Saved}
use Rattle.zone_spec.specs.Damage.{IsLogWithinBounds}
use Rattle.zone_spec.specs.Layouts.{IsLayout}
use Rattle.machine_spec.specs.States.{OffZone, OffState, Off, LiveZone}
use Rattle.machine_spec.specs.Boot.{booted_zone}
use Rattle.machine_spec.specs.Moved.{found_of, moved}
use Rattle.machine_spec.specs.Sound.{IsLiveZone, IsMemory, IsState}
use Rattle.machine_spec.specs.Headline.{EachOffZone}

-- ---- a blank zone

-- a zone of zeros is sound after a boot, in no flight, and told nothing, so it can be told a log
abbrev pub BlankZoneIsToldNothing : Type 0
BlankZoneIsToldNothing = (z : Zone) (mem : ℕ) → IsValidZone z → z.at + z.size ≤ mem
    → let zone : LiveZone = booted_zone (replicate mem 0) z in
    IsLiveZone z zone × (zone.flight ≡ None) × (zone.told ≡ [])

-- ---- the moved image

-- the first log with bytes that was found of a zone, or else no bytes
abbrev pub log_of : List Saved → Zone → List ℕ
log_of zones z = unwrap_or (find (λ (log : List ℕ). not (length log == 0))
    (map (λ (r : ZoneReading). r.log) (found_of zones z))) []

-- a log that a zone has room for
abbrev pub IsLogFor : Zone → ZoneReading → Type 0
IsLogFor z r = (length r.log ≤ z.cap) × AreBytes r.log

-- so is each that was found of a zone of the layout
abbrev pub LogsFit : List Zone → List Saved → Type 0
LogsFit layout zones = (i : ℕ) (z : Zone) → slice_get layout i ≡ Some z → AllByRecursion (IsLogFor z) (found_of zones z)

-- a moved image makes a sound state
abbrev pub MovedImageIsSound : Type 0
MovedImageIsSound = (layout : List Zone) (mem : ℕ) (zones : List Saved) → IsLayout layout mem → LogsFit layout zones
    → IsState layout mem (Off (moved layout mem zones))

-- a zone is told its log, has no cut, and its stop is this moment
pub record IsToldLog (zones : List Saved) (z : Zone) (zone : OffZone) (now : List ℕ) : Type 0 where
  pub told : zone.told ≡ Some (log_of zones z)
  pub cut : zone.cut ≡ None
  pub stop : zone.stop ≡ now

-- so is each zone of a moved image
abbrev pub MovedZonesAreTold : Type 0
MovedZonesAreTold = (layout : List Zone) (mem : ℕ) (zones : List Saved) → IsLayout layout mem → LogsFit layout zones
    → EachOffZone layout (moved layout mem zones) (IsToldLog zones)

-- a zone reads its log with nothing corrected and nothing bad, and is found where its log has bytes
pub record ReadsLog (zones : List Saved) (z : Zone) (now : List ℕ) : Type 0 where
  pub log : (zone_reading z now).log ≡ log_of zones z
  pub state : (zone_reading z now).state ≡ (if length (log_of zones z) == 0 then Empty else Found)
  pub corrected : (zone_reading z now).corrected ≡ 0
  pub bad : (zone_reading z now).bad ≡ 0

-- so reads each zone of a moved image
abbrev pub MovedImageReads : Type 0
MovedImageReads = (layout : List Zone) (mem : ℕ) (zones : List Saved) → IsLayout layout mem → LogsFit layout zones
    → EachOffZone layout (moved layout mem zones) (λ z zone now. ReadsLog zones z now)

-- after any damage to a moved image each zone whose log is within bounds reads it
abbrev pub MovedZonesRead : Type 0
MovedZonesRead = (layout : List Zone) (mem : ℕ) (zones : List Saved) (off : OffState) → IsLayout layout mem
    → LogsFit layout zones
    → off.zones ≡ (moved layout mem zones).zones → IsMemory mem off.image
    → EachOffZone layout off (λ z zone now. IsLogWithinBounds z zone.stop now (length (log_of zones z))
    → (zone_reading z now).log ≡ log_of zones z)
