-- Where a call that is asked for goes, by what is seen of the machine
use Rattle.std.specs.Prelude.{ℕ, Bool, false, ◌&&◌, if◌then◌else◌, is_some, List, zip, slice_get, Option, Some, None}
use Rattle.std.specs.List.{list_any, count_by}
use Rattle.zone_spec.specs.declared.Zone.{Zone}
use Rattle.zone_spec.specs.declared.ZoneName.{ZoneName}
use Rattle.zone_spec.specs.declared.Kind.TheVariants.{Dump as DumpKind}
use Rattle.zone_spec.specs.Records.{is_of}
use Rattle.zone_spec.specs.Layouts.{zone_place}
use Rattle.machine_spec.specs.LiveCalls.{Ask, Append, Erase, Dump}
use Rattle.ramoops.specs.declared.zones.HeldZone.{HeldZone}
use Rattle.ramoops.specs.LiveSeen.{LiveSeen}

-- a place, but for that of a dump zone
abbrev pub unless_dump : ℕ → Option Zone → Option ℕ
unless_dump i None = None
unless_dump i (Some z) = if is_of DumpKind z.name.kind then None else Some i

abbrev pub ring_at : List Zone → Option ℕ → Option ℕ
ring_at layout None = None
ring_at layout (Some i) = unless_dump i (slice_get layout i)

-- the name of the zone that it goes to: a dump's is the cursor's
abbrev pub name_of : ℕ → Ask → ZoneName
name_of cursor (Append zone payload) = zone
name_of cursor (Erase zone) = zone
name_of cursor (Dump time packed body) = record { kind = DumpKind; index = cursor }

-- that zone's place; dump zones take no appends
abbrev pub place_asked : List Zone → ℕ → Ask → Option ℕ
place_asked layout cursor (Append zone payload) = ring_at layout (zone_place layout zone)
place_asked layout cursor (Erase zone) = zone_place layout zone
place_asked layout cursor (Dump time packed body) = zone_place layout (name_of cursor (Dump time packed body))

-- whether a dump zone has a flight
abbrev pub dump_flies : List Zone → List HeldZone → Bool
dump_flies layout zones = list_any (λ (pair : Zone × HeldZone). is_of DumpKind pair.0.name.kind && is_some
    pair.1.flight) (zip layout zones)

-- how many dump zones have one
abbrev pub dump_flights : List Zone → List HeldZone → ℕ
dump_flights layout zones = count_by (λ (pair : Zone × HeldZone). is_of DumpKind pair.0.name.kind && is_some
    pair.1.flight) (zip layout zones)

-- one, if a zone is a dump zone and has a flight
abbrev pub dump_flight : Zone → Bool → ℕ
dump_flight z flies = if is_of DumpKind z.name.kind && flies then 1 else 0

-- whether that is in the call's way
abbrev pub barred : List Zone → List HeldZone → Ask → Bool
barred layout zones (Append zone payload) = false
barred layout zones (Erase zone) = false
barred layout zones (Dump time packed body) = dump_flies layout zones

-- whether a flight stands in a zone, if there is one
abbrev pub flies_at : Option HeldZone → Bool
flies_at None = false
flies_at (Some held) = is_some held.flight

-- what is kept of a zone at a place
abbrev pub held_at : List HeldZone → Option ℕ → Option HeldZone
held_at zones None = None
held_at zones (Some i) = slice_get zones i

-- whether a flight stands in the zone of this name, if there is one
abbrev pub flies_in : LiveSeen → ZoneName → Bool
flies_in v name = flies_at (held_at v.zones (zone_place v.layout name))
