-- The listed records as the walk finds them
use Rattle.std.specs.Prelude.{◌≡◌, ◌<◌, ℕ, List, [], ◌∷◌, length, map, slice_get, Option, Some, None, IfSome}
use Rattle.std.specs.Prelude.{filter}
use Rattle.std.specs.Option.{option_map}
use Rattle.std.specs.List.{All}
use Rattle.std.specs.Borrow.{Bor}
use Rattle.zone_spec.specs.declared.Kind.{Kind}
use Rattle.zone_spec.specs.declared.Kind.TheVariants.{Dump, Console, Ftrace, Pmsg}
use Rattle.zone_spec.specs.declared.Name.{Name}
use Rattle.zone_spec.specs.Names.{is_name}
use Rattle.zone_spec.specs.declared.Name.TheVariants.{Console as ConsoleName, Pmsg as PmsgName}
use Rattle.zone_spec.specs.Ftrace.{merged}
use Rattle.zone_spec.specs.Records.{Saved, Listed, dumps_of, plain, logs_of, first_listed}
use Rattle.pstore_records.specs.Counts.{zones_of}
use Rattle.pstore_records.specs.declared.walk.Source.{Source}

-- the records that zones of a kind make, each by itself
abbrev pub own_records : Kind → List Saved → List Listed
own_records Dump zones = dumps_of zones
own_records Console zones = plain ConsoleName (logs_of Console zones)
own_records Pmsg zones = plain PmsgName (logs_of Pmsg zones)
own_records Ftrace zones = []

-- the content that stands in one log, or else the merged entries of all ftrace zones
abbrev pub content_in : List Saved → Option (Bor (List ℕ)) → List ℕ
content_in zones (Some log) = log.now
content_in zones None = merged (logs_of Ftrace zones)

-- the record that a source stands for
abbrev pub listed_in : List Saved → Source → Listed
listed_in zones source = record {
  name = source.name;
  content = content_in zones source.content;
  time = source.time;
}

-- a zone that is named is there, and is the only one in the record
pub record IsCounted (zones : List Saved) (source : Source) : Type 0 where
  pub within : (i : ℕ) → source.zone ≡ Some i → i < length zones
  pub only : (i : ℕ) (s : Saved) → source.zone ≡ Some i → slice_get zones i ≡ Some s
      → zones_of source.name (s ∷ []) ≡ zones_of source.name zones

-- the sources of these records, in order
pub record AreSources (zones : List Saved) (sources : List Source) (records : List Listed) : Type 0 where
  pub listed : map (listed_in zones) sources ≡ records
  pub counted : All (IsCounted zones) sources

-- the first of these records with this name
abbrev pub first_named : Name → List Listed → Option Listed
first_named name records = first_listed (filter (λ (r : Listed). is_name r.name name) records)

-- its source, if there is one
pub record IsNamed (zones : List Saved) (source : Option Source) (name : Name) (records : List Listed) : Type 0 where
  pub listed : option_map (listed_in zones) source ≡ first_named name records
  pub counted : IfSome source (IsCounted zones)
