-- The readings that a boot saves
use Rattle.std.specs.Prelude.{◌≡◌, ℕ, ◌<◌, ◌≤◌, ◌^◌, List, length, slice_get, Option, Some}
use Rattle.std.specs.List.{zip}
use Rattle.std.specs.Global.{Vec}
use Rattle.std.specs.Vec.{vec_capacity}
use Rattle.zone_spec.specs.declared.Zone.{Zone}
use Rattle.zone_spec.specs.Reading.{ZoneReading}
use Rattle.zone_spec.specs.Records.{Saved}

-- the zones of a layout, and the readings of the first of them, None where one was forgotten
pub record SavedLogs : Type 0 where
  pub zones : List Zone
  pub readings : List (Option ZoneReading)

-- each saved reading beside its zone
abbrev pub saved : SavedLogs → List Saved
saved logs = zip logs.zones logs.readings

-- the number of each zone has 32 bits
abbrev pub AreNumbered : List Zone → Type 0
AreNumbered zones = (k : ℕ) (z : Zone) → slice_get zones k ≡ Some z → z.name.index < 2 ^ 32

-- no more readings than zones, with room for one of each, and zones whose numbers have 32 bits
pub record HasRoom (zones : Vec Zone) (readings : Vec (Option ZoneReading)) : Type 0 where
  pub below : length readings.items ≤ length zones.items
  pub room : length zones.items ≤ vec_capacity readings
  pub few : length zones.items < 2 ^ 32
  pub numbered : AreNumbered zones.items
