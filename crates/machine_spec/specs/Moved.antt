-- An image under new parameters: what of an old image's saved logs fits, and a blank image that is told it
use Rattle.std.specs.Prelude.{ℕ, Bool, false, not, ◌&&◌, ◌==◌, if◌then◌else◌, is_some, nat_le, List, length, map}
use Rattle.std.specs.Prelude.{filter, flat_map, fold, zip, replicate, slice_get, Option, Some, None, []}
use Rattle.std.specs.Option.{option_and_then, option_map}
use Rattle.std.specs.List.{list_all}
use Rattle.zone_spec.specs.declared.Zone.{Zone}
use Rattle.zone_spec.specs.declared.ZoneName.{ZoneName}
use Rattle.zone_spec.specs.declared.Kind.{Kind}
use Rattle.zone_spec.specs.declared.Kind.TheVariants.{Dump, Console, Ftrace, Pmsg}
use Rattle.zone_spec.specs.declared.Name.{Name}
use Rattle.zone_spec.specs.declared.Name.TheVariants.{Dump as DumpName, Console as ConsoleName, Pmsg as PmsgName}
use Rattle.zone_spec.specs.declared.Name.TheVariants.{Ftrace as FtraceName}
use Rattle.zone_spec.specs.declared.TimeLine.{TimeLine}
use Rattle.zone_spec.specs.TimeLines.{read_line}
use Rattle.zone_spec.specs.Reading.{ZoneReading}
use Rattle.zone_spec.specs.Told.{Append}
use Rattle.zone_spec.specs.Records.{Saved, found}
use Rattle.zone_spec.specs.Notices.{is_in}
use Rattle.zone_spec.specs.Layouts.{is_zone, zone_place}
use Rattle.machine_spec.specs.States.{LiveZone, LiveState, OffState}
use Rattle.machine_spec.specs.ZoneCalls.{begun, finished}
use Rattle.machine_spec.specs.Off.{fresh}
use Rattle.machine_spec.specs.Boot.{booted}
use Rattle.machine_spec.specs.Stop.{stopped}

-- ---- what fits

-- the zone of this name
abbrev pub zone_named : List Zone → ZoneName → Option Zone
zone_named layout name = option_and_then (λ i. slice_get layout i) (zone_place layout name)

-- whether it is there, with room for so many bytes
abbrev pub has_room : ℕ → Option Zone → Bool
has_room len None = false
has_room len (Some z) = nat_le len z.cap

-- whether a layout takes the log of a saved zone, if that was found
abbrev pub takes : List Zone → Saved → Bool
takes layout zone = list_all (λ (r : ZoneReading). has_room (length r.log) (zone_named layout zone.0.name))
    (found zone.1)

-- a record fits if the layout takes the logs of all its zones
abbrev pub fits : List Zone → List Saved → Name → Bool
fits layout zones name = list_all (takes layout) (filter (λ (zone : Saved). is_in name zone.0) zones)

-- ---- what moves

-- the record that a zone with this log is part of; a dump zone without a time line is part of none
abbrev pub record_name : ZoneName → List ℕ → Kind → Option Name
record_name zone log Dump = option_map (λ (line : TimeLine). DumpName zone.index line.packed) (read_line log)
record_name zone log Console = Some ConsoleName
record_name zone log Pmsg = Some PmsgName
record_name zone log Ftrace = Some FtraceName

-- whether that record fits
abbrev pub is_fit : List Zone → List Saved → Option Name → Bool
is_fit layout zones None = false
is_fit layout zones (Some name) = fits layout zones name

-- a reading, forgotten if its zone's record does not fit
abbrev pub kept_if : List Zone → List Saved → ZoneName → Option ZoneReading → Option ZoneReading
kept_if layout zones zone None = None
kept_if layout zones zone (Some r) =
    if is_fit layout zones (record_name zone r.log zone.kind) then Some r else None

-- the saved logs of the records that fit
abbrev pub fitting : List Zone → List Saved → List Saved
fitting layout zones = map (λ (zone : Saved). (zone.0, kept_if layout zones zone.0.name zone.1)) zones

-- ---- the moved image

-- the readings that were found of the zone of this name
abbrev pub found_of : List Saved → Zone → List ZoneReading
found_of zones z = flat_map (λ (zone : Saved). if is_zone zone.0.name z then found zone.1 else []) zones

-- whether a zone is told nothing yet, and no call is in flight there
abbrev pub is_blank : LiveZone → Bool
is_blank zone = not (is_some zone.flight) && (length zone.told == 0)

-- such a zone after an append of a log
abbrev pub with_log : Zone → LiveZone → List ℕ → LiveZone
with_log z zone log = if is_blank zone then finished z (begun z (Append log) zone) else zone

-- the store after an append to each zone of the log that was found of it
abbrev pub refilled : List Zone → List Saved → LiveState → LiveState
refilled layout zones live = record live {
  zones = map (λ (pair : Zone × LiveZone). fold (λ zone (r : ZoneReading). with_log pair.0 zone r.log) pair.1
      (found_of zones pair.0))
      (zip layout live.zones);
}

-- mem zero bytes, booted, told these logs, and stopped
abbrev pub moved : List Zone → ℕ → List Saved → OffState
moved layout mem zones = stopped layout
    (refilled layout zones (booted layout (fresh layout (replicate mem 0))))
