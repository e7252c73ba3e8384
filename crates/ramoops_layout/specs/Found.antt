-- One zone of a layout
use Rattle.std.specs.Prelude.{◌≡◌, List, length, find, Option, Ok}
use Rattle.zone_spec.specs.declared.Zone.{Zone}
use Rattle.zone_spec.specs.declared.ZoneName.{ZoneName}
use Rattle.zone_spec.specs.declared.params.Params.{Params}
use Rattle.zone_spec.specs.declared.params.Row.{Row}
use Rattle.zone_spec.specs.Layout.{layout_of, rows as rows_of, zones_from}
use Rattle.zone_spec.specs.Layouts.{is_zone}
use Rattle.ramoops_layout.specs.declared.finding.Found.{Found}

-- the zone with this name, or None
abbrev pub zone_named : List Zone → ZoneName → Option Zone
zone_named zones name = find (is_zone name) zones

-- the zone of this name, if there is one, and the number of zones and of bytes of a layout
pub record IsFound (p : Params) (name : ZoneName) (found : Found) : Type 0 where
  pub all : List Zone
  pub laid : layout_of p ≡ Ok all
  pub zone : found.zone ≡ zone_named all name
  pub zones : found.zones ≡ length all
  pub mem : found.mem ≡ p.mem

-- there is a layout, of these rows
pub record HasRows (p : Params) (rows : List Row) : Type 0 where
  pub are : rows ≡ rows_of p
  pub laid : layout_of p ≡ Ok (zones_from p 0 rows)
