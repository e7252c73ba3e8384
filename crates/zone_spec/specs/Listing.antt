-- Whether a boot's saved logs list a record of a name; what the record holds is not asked
use Rattle.std.specs.Prelude.{Bool, true, false, not, ◌&&◌, if◌then◌else◌, List}
use Rattle.std.specs.Option.{option_map_or}
use Rattle.std.specs.List.{list_any}
use Rattle.zone_spec.specs.declared.Name.{Name}
use Rattle.zone_spec.specs.declared.Name.TheVariants.{Dump}
use Rattle.zone_spec.specs.declared.TimeLine.{TimeLine}
use Rattle.zone_spec.specs.Reading.{ZoneReading}
use Rattle.zone_spec.specs.TimeLines.{read_line}
use Rattle.zone_spec.specs.Records.{Saved, found}
use Rattle.zone_spec.specs.Notices.{is_in}

-- whether a log of a record's zone makes the record: a dump's must begin with a time line that fits the name
abbrev pub makes_record : Name → ZoneReading → Bool
makes_record (Dump index packed) reading =
    option_map_or (λ (line : TimeLine). if line.packed then packed else not packed) (read_line reading.log) false
makes_record other reading = true

-- whether a zone of the record was found, not forgotten, and makes the record
abbrev pub is_listed : List Saved → Name → Bool
is_listed zones name =
    list_any (λ (zone : Saved). is_in name zone.0 && list_any (makes_record name) (found zone.1)) zones
