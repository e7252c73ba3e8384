-- What is left of a scan
use Rattle.std.specs.Prelude.{◌≡◌, ℕ, ◌+◌, ◌-◌, ◌*◌, ◌/◌, ◌^◌, ◌<◌, ◌≤◌, if◌then◌else◌, nat_lt, List, [], ◌++◌, length}
use Rattle.std.specs.Prelude.{drop, flat_map, filter_map, Option, Result, Err, IsOk, MatchOption}
use Rattle.std.specs.List.{range_with_len}
use Rattle.zone_spec.specs.declared.Zone.{Zone}
use Rattle.zone_spec.specs.Reading.{ZoneReading}
use Rattle.salvage_spec.specs.declared.FoundRing.{FoundRing}
use Rattle.salvage_spec.specs.declared.RingFault.{RingFault}
use Rattle.salvage_spec.specs.declared.RingFault.TheVariants.{NoZone, NoRing, Memory}
use Rattle.salvage_spec.specs.Rings.{ring_at, shapes}
use Rattle.salvage.specs.declared.scan.Hit.{Hit}

-- the dump, the layout's zones, and the rings that are left to be listed
pub record Scanned : Type 0 where
  pub image : List ℕ
  pub zones : List Zone
  pub rest : List FoundRing

abbrev pub places : List ℕ → ℕ
places dump = (length dump + 1) / 2

-- the rings at the i-th even place
abbrev pub rings_at : List ℕ → List Zone → ℕ → List FoundRing
rings_at dump kinds i = filter_map (ring_at dump (2 * i)) kinds

-- the rings from the i-th even place on, there of the shapes from index on
unfoldable pub rings_from : List ℕ → List Zone → ℕ → ℕ → List FoundRing
rings_from dump kinds i index =
    (if nat_lt i (places dump) then rings_at dump (drop index kinds) i else [])
    ++ flat_map (rings_at dump kinds) (range_with_len (i + 1) (places dump - (i + 1)))

-- a dump of at most 16 MiB, and the shapes of its zones
pub record IsScan (dump : List ℕ) (zones kinds : List Zone) : Type 0 where
  pub short : length dump ≤ 2 ^ 24
  pub each : kinds ≡ shapes zones

-- a ring that was found stands at this place, and is of one of the shapes
abbrev pub IsFirst : Option Hit → ℕ → List Zone → Type 0
IsFirst hit place kinds = MatchOption hit (Unit {0}) (λ h. (h.place ≡ place) × (h.index < length kinds))

-- why nothing is read: there is no such zone or no ring; memory is wanted only of a ring
abbrev pub IsFault : Result ZoneReading RingFault → RingFault → Type 0
IsFault asked NoZone = asked ≡ Err NoZone
IsFault asked NoRing = asked ≡ Err NoRing
IsFault asked Memory = IsOk asked
