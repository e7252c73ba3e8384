-- What is told of each record of saved logs that are moved to another layout
use Rattle.std.specs.Prelude.{Bool, true, List, length, Option, Some, None}
use Rattle.zone_spec.specs.declared.Zone.{Zone}
use Rattle.zone_spec.specs.Reading.{ZoneReading}
use Rattle.zone_spec.specs.Records.{Saved, Listed}
use Rattle.machine_spec.specs.Moved.{fits, is_fit, record_name}
use Rattle.pstore_records.specs.Counts.{corrected_in, bad_in}
use Rattle.pstore_records.specs.declared.moving.Move.{Move}

-- a record's name, the length of its content without a notice, what its zones count, and whether it fits
abbrev pub move_of : List Zone → List Saved → Listed → Move
move_of layout zones r = record {
  name = r.name;
  len = length r.content;
  corrected = corrected_in r.name zones;
  bad = bad_in r.name zones;
  fits = fits layout zones r.name;
}

-- whether the record of a saved zone fits, if it was not forgotten
abbrev pub stays : List Zone → List Saved → Saved → Option ZoneReading → Bool
stays layout zones zone None = true
stays layout zones zone (Some r) = is_fit layout zones (record_name zone.0.name r.log zone.0.name.kind)
