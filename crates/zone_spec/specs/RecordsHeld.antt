-- The records of an image, as a boot lists them
use Rattle.std.specs.Prelude.{ℕ, List, map, Option}
use Rattle.zone_spec.specs.declared.Name.{Name}
use Rattle.zone_spec.specs.declared.Time.{Time}
use Rattle.zone_spec.specs.Records.{Saved, Listed, listed_of}
use Rattle.zone_spec.specs.Notices.{notice}

-- a record: its name, a dump's time, its content, and the notice that follows it
pub record RecordHeld : Type 0 where
  pub name : Name
  pub time : Option Time
  pub content : List ℕ
  pub notice : List ℕ

abbrev pub record_held : List Saved → Listed → RecordHeld
record_held zones r = record { name = r.name; time = r.time; content = r.content; notice = notice zones r.name }

-- the listed records, in order
abbrev pub records_held : List Saved → List RecordHeld
records_held zones = map (record_held zones) (listed_of zones)
