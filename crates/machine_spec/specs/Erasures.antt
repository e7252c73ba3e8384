-- The erasure of a record: all its zones are erased, and their saved logs forgotten (fs/pstore/ram.c,
-- ramoops_pstore_erase; that it takes all ftrace zones is the project's own)
use Rattle.std.specs.Prelude.{if◌then◌else◌, List, map, zip, None}
use Rattle.zone_spec.specs.declared.Zone.{Zone}
use Rattle.zone_spec.specs.declared.Name.{Name}
use Rattle.zone_spec.specs.Told.{Erase}
use Rattle.zone_spec.specs.Records.{Saved}
use Rattle.zone_spec.specs.Notices.{is_in}
use Rattle.machine_spec.specs.States.{LiveZone, LiveState}
use Rattle.machine_spec.specs.ZoneCalls.{begun, finished}

-- the zones beside the logs that the last boot saved
abbrev pub saved_logs : List Zone → LiveState → List Saved
saved_logs layout live = zip layout live.logs

-- a zone of the record with all stores of an erasure made
abbrev pub erase_zone : Name → Zone → LiveZone → LiveZone
erase_zone name z live = if is_in name z then finished z (begun z Erase live) else live

-- the store after it
abbrev pub erased : List Zone → LiveState → Name → LiveState
erased layout live name = record live {
  zones = map (λ (pair : Zone × LiveZone). erase_zone name pair.0 pair.1) (zip layout live.zones);
  logs = map (λ (pair : Saved). if is_in name pair.0 then None else pair.1) (saved_logs layout live);
}
