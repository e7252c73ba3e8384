-- The cursor of a machine, which one without dump zones has not
use Rattle.std.specs.Prelude.{◌≡◌, ℕ, ◌+◌, ◌%◌, if◌then◌else◌, List, Option, Some, None}
use Rattle.zone_spec.specs.declared.Zone.{Zone}
use Rattle.machine_spec.specs.Zones.{dump_zones}
use Rattle.dump_records.specs.declared.cursor.Cursor.{Cursor}
use Rattle.dump_records.specs.Cursors.{place_of, zones_of}
use Rattle.ramoops.specs.declared.zones.Stored.{Stored}
use Rattle.ramoops.specs.Storing.{is_last_of_dump}

-- the number of the dump zone that the next dump goes to
abbrev pub cursor_at : Option Cursor → ℕ
cursor_at None = 0
cursor_at (Some c) = place_of c

-- it goes round the dump zones
abbrev pub IsTurning : List Zone → Option Cursor → Type 0
IsTurning layout None = dump_zones layout ≡ 0
IsTurning layout (Some c) = zones_of c ≡ dump_zones layout

-- the cursor behind a store: it goes on, round the dump zones, behind the last one of a dump
abbrev pub cursor_after : List Zone → Option Stored → ℕ → ℕ
cursor_after layout stored cursor = if is_last_of_dump stored then (cursor + 1) % dump_zones layout else cursor
