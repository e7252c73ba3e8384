-- A zone of a live store, and the store after a change of it
use Rattle.std.specs.Prelude.{ℕ, ◌+◌, ◌%◌, Bool, true, false, not, ◌&&◌, if◌then◌else◌, is_some, List, zip, slice_get}
use Rattle.std.specs.Prelude.{slice_set, Option, Some, None}
use Rattle.std.specs.List.{list_any}
use Rattle.zone_spec.specs.declared.Zone.{Zone}
use Rattle.zone_spec.specs.declared.ZoneName.{ZoneName}
use Rattle.zone_spec.specs.declared.Kind.TheVariants.{Dump as DumpKind}
use Rattle.zone_spec.specs.Told.{Call, Dump}
use Rattle.zone_spec.specs.Records.{is_of}
use Rattle.zone_spec.specs.Layouts.{zone_place}
use Rattle.machine_spec.specs.Zones.{dump_zones}
use Rattle.machine_spec.specs.States.{Flight, LiveZone, LiveState}

-- a zone of the layout with its place and its standing
pub record Target : Type 0 where
  pub place : ℕ
  pub zone : Zone
  pub live : LiveZone

-- the target of these, where both are there
abbrev pub target_of : ℕ → Option Zone → Option LiveZone → Option Target
target_of i (Some z) (Some live) = Some (record { place = i; zone = z; live = live })
target_of i (Some z) None = None
target_of i None live = None

-- the zone at a place
abbrev pub target_at : List Zone → LiveState → Option ℕ → Option Target
target_at layout live None = None
target_at layout live (Some i) = target_of i (slice_get layout i) (slice_get live.zones i)

-- the zone with this name
abbrev pub target : List Zone → LiveState → ZoneName → Option Target
target layout live name = target_at layout live (zone_place layout name)

-- the same, but for dump zones, which take no appends
abbrev pub ring_only : Option Target → Option Target
ring_only None = None
ring_only (Some t) = if is_of DumpKind t.zone.name.kind then None else Some t

-- whether a flight stands in a zone of which the test holds
abbrev pub flies : List Zone → LiveState → (Zone → Bool) → Bool
flies layout live test = list_any (λ (pair : Zone × LiveZone). test pair.0 && is_some pair.1.flight)
    (zip layout live.zones)

-- whether a dump is in flight
abbrev pub is_dump : Call → Bool
is_dump (Dump line body) = true
is_dump other = false

-- whether a flight is a dump's
abbrev pub flies_dump : Option Flight → Bool
flies_dump None = false
flies_dump (Some f) = is_dump f.call

-- a zone's new standing; a dump whose last store was made moves the cursor, round the dump zones
-- (fs/pstore/ram.c, ramoops_pstore_write)
abbrev pub with_zone : List Zone → LiveState → ℕ → LiveZone → LiveZone → LiveState
with_zone layout live i old new = record live {
  zones = slice_set live.zones i new;
  cursor = if flies_dump old.flight && not (is_some new.flight) then (live.cursor + 1)
      % dump_zones layout else live.cursor;
}

-- the state after a change of one zone
abbrev pub changed : List Zone → LiveState → Target → (Zone → LiveZone → LiveZone) → LiveState
changed layout live t change = with_zone layout live t.place t.live (change t.zone t.live)
