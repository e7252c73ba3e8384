-- The zones of a layout: where they lie, and one by its name
use Rattle.std.specs.Prelude.{◌≡◌, ℕ, ◌≤◌, Bool, ◌&&◌, ◌==◌, List, take, position, sum_by, slice_get, Option, Some}
use Rattle.zone_spec.specs.declared.Zone.{Zone}
use Rattle.zone_spec.specs.declared.ZoneName.{ZoneName}
use Rattle.zone_spec.specs.Zones.{IsValidZone}
use Rattle.zone_spec.specs.Records.{is_of}

-- the bytes that the zones have together
abbrev pub zones_end : List Zone → ℕ
zones_end zones = sum_by (λ (z : Zone). z.size) zones

-- the zones are valid, follow one another from 0 on, and end within mem bytes
pub record IsLayout (zones : List Zone) (mem : ℕ) : Type 0 where
  pub valid : (i : ℕ) (z : Zone) → slice_get zones i ≡ Some z → IsValidZone z × (z.at ≡ zones_end (take i zones))
  pub within : zones_end zones ≤ mem

-- whether a zone has this name
abbrev pub is_zone : ZoneName → Zone → Bool
is_zone name z = is_of name.kind z.name.kind && (z.name.index == name.index)

-- the place of the zone with this name, or None
abbrev pub zone_place : List Zone → ZoneName → Option ℕ
zone_place zones name = position (is_zone name) zones
