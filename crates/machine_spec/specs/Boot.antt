-- A boot: every zone is read, its log saved, and its boot stores made
use Rattle.std.specs.Prelude.{ℕ, List, drop, map, Some, None}
use Rattle.zone_spec.specs.declared.Zone.{Zone}
use Rattle.zone_spec.specs.Reading.{zone_reading}
use Rattle.zone_spec.specs.Stores.{after_stores}
use Rattle.zone_spec.specs.Boot.{boot_stores, told_by_boot}
use Rattle.zone_spec.specs.Layouts.{zones_end}
use Rattle.machine_spec.specs.Zones.{zone_bytes}
use Rattle.machine_spec.specs.States.{OffState, LiveZone, LiveState}

-- a zone after a boot of this image
abbrev pub booted_zone : List ℕ → Zone → LiveZone
booted_zone image z = record {
  image = after_stores (zone_bytes z image) (boot_stores z (zone_bytes z image));
  told = told_by_boot z (zone_bytes z image);
  flight = None;
}

-- the store after a boot
abbrev pub booted : List Zone → OffState → LiveState
booted layout off = record {
  zones = map (booted_zone off.image) layout;
  rest = drop (zones_end layout) off.image;
  cursor = 0;
  logs = map (λ z. Some (zone_reading z (zone_bytes z off.image))) layout;
}
