-- The report of an image
use Rattle.std.specs.Prelude.{◌≡◌, ℕ, ◌<◌, List, [], ◌∷◌, ◌++◌, length, map, slice_get, Option, Some}
use Rattle.zone_spec.specs.declared.Zone.{Zone}
use Rattle.zone_spec.specs.Reading.{zone_reading}
use Rattle.prz_read.specs.Saving.{SavedLogs, saved}
use Rattle.zone_spec.specs.PartStates.{PartStates, part_states, zone_bytes}
use Rattle.report_spec.specs.declared.Origin.{Origin}
use Rattle.report_spec.specs.declared.Origin.TheVariants.{Region}
use Rattle.ftrace_spec.specs.declared.EntryForm.{EntryForm}
use Rattle.report_spec.specs.Packed.{RecordShown, AreShown, records_traced}
use Rattle.report_spec.specs.Doubts.{with_doubts}
use Rattle.report_spec.specs.Mending.{records_mended}
use Rattle.region_report.specs.declared.report.Readings.{Readings}

-- what a contract sees of a report: whose records it shows, the saved logs of all zones, how the parts of each zone
-- read, and the records as they are shown
pub record ReportHeld : Type 0 where
  pub origin : Origin
  pub logs : SavedLogs
  pub parts : List PartStates
  pub records : List RecordShown

-- each span has its zone's size
pub record SpansFit (zones : List Zone) (spans : List (List ℕ)) : Type 0 where
  pub count : length spans ≡ length zones
  pub sizes : (i : ℕ) (z : Zone) (bytes : List ℕ) → slice_get zones i ≡ Some z → slice_get spans i ≡ Some bytes
      → length bytes ≡ z.size

-- one zone more
pub record Adds (old new : Readings) (z : Zone) (bytes : List ℕ) : Type 0 where
  pub zones : new.logs.zones ≡ old.logs.zones
  pub readings : new.logs.readings ≡ old.logs.readings ++ Some (zone_reading z bytes) ∷ []
  pub parts : new.parts.items ≡ old.parts.items ++ part_states z bytes ∷ []

-- the first n zones, whose bytes are the spans, as they read
pub record ReadsTo (zones : List Zone) (spans : List (List ℕ)) (n : ℕ) (r : Readings) : Type 0 where
  pub zones_same : r.logs.zones ≡ zones
  pub readings_len : length r.logs.readings ≡ n
  pub parts_len : length r.parts.items ≡ n
  pub readings : (i : ℕ) (z : Zone) (bytes : List ℕ) → i < n → slice_get zones i ≡ Some z
      → slice_get spans i ≡ Some bytes → slice_get r.logs.readings i ≡ Some (Some (zone_reading z bytes))
  pub parts : (i : ℕ) (z : Zone) (bytes : List ℕ) → i < n → slice_get zones i ≡ Some z
      → slice_get spans i ≡ Some bytes → slice_get r.parts.items i ≡ Some (part_states z bytes)

-- the records that the readings list, as they are shown, with what of each stands in bad blocks, and the console and
-- the newest dump mended by one another
abbrev pub AreMended : List Zone → List ℕ → Option EntryForm → ReportHeld → Type 0
AreMended zones names given r =
    (shown : List RecordShown) × AreShown zones names (records_traced zones given (saved r.logs)) shown
    × (r.records ≡ records_mended r.parts (map (λ (s : RecordShown). with_doubts zones (saved r.logs) r.parts s) shown))

-- the report of an image by a layout, with the functions of a map and the form of the ftrace entries, if it is given:
-- each zone's reading, how its parts read, and the records
pub record IsReport (zones : List Zone) (names : List ℕ) (given : Option EntryForm) (image : List ℕ) (r : ReportHeld)
    : Type 0 where
  pub of_region : r.origin ≡ Region
  pub zones_same : r.logs.zones ≡ zones
  pub readings_len : length r.logs.readings ≡ length zones
  pub parts_len : length r.parts ≡ length zones
  pub readings : (i : ℕ) (z : Zone) → slice_get zones i ≡ Some z
      → slice_get r.logs.readings i ≡ Some (Some (zone_reading z (zone_bytes z image)))
  pub parts : (i : ℕ) (z : Zone) → slice_get zones i ≡ Some z
      → slice_get r.parts i ≡ Some (part_states z (zone_bytes z image))
  pub records : AreMended zones names given r
