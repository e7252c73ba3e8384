-- The records that a boot's saved logs list (fs/pstore/ram.c, ramoops_pstore_read)
use Rattle.std.specs.Prelude.{ℕ, Bool, true, false, if◌then◌else◌, List, [], ◌∷◌, ◌++◌, drop, filter, flat_map, map}
use Rattle.std.specs.Prelude.{Option, Some, None}
use Rattle.zone_spec.specs.declared.Zone.{Zone}
use Rattle.zone_spec.specs.declared.Kind.{Kind}
use Rattle.zone_spec.specs.declared.Kind.TheVariants.{Dump, Console, Ftrace, Pmsg}
use Rattle.zone_spec.specs.declared.Name.{Name}
use Rattle.zone_spec.specs.declared.Name.TheVariants.{Dump as DumpName, Console as ConsoleName, Pmsg as PmsgName}
use Rattle.zone_spec.specs.declared.Name.TheVariants.{Ftrace as FtraceName}
use Rattle.zone_spec.specs.declared.State.{State}
use Rattle.zone_spec.specs.declared.State.TheVariants.{Found}
use Rattle.zone_spec.specs.declared.Time.{Time}
use Rattle.zone_spec.specs.declared.TimeLine.{TimeLine}
use Rattle.zone_spec.specs.Reading.{ZoneReading}
use Rattle.zone_spec.specs.TimeLines.{read_line}
use Rattle.zone_spec.specs.Ftrace.{merged}
use Rattle.zone_spec.specs.Names.{is_name}

-- a zone beside its saved reading, None where it was forgotten
abbrev pub Saved : Type 0
Saved = Zone × Option ZoneReading

-- a listed record: its name, its content without a notice, and a dump's time
pub record Listed : Type 0 where
  pub name : Name
  pub content : List ℕ
  pub time : Option Time

-- whether a kind is another
abbrev pub is_of : Kind → Kind → Bool
is_of Dump Dump = true
is_of Console Console = true
is_of Ftrace Ftrace = true
is_of Pmsg Pmsg = true
is_of kind other = false

-- the reading of a zone that was found and not forgotten, as a list of one
abbrev pub found_in : ZoneReading → State → List ZoneReading
found_in reading Found = reading ∷ []
found_in reading other = []

-- the same of a saved reading
abbrev pub found : Option ZoneReading → List ZoneReading
found None = []
found (Some reading) = found_in reading reading.state

-- the logs of the zones of a kind that were found and not forgotten
abbrev pub logs_of : Kind → List Saved → List (List ℕ)
logs_of kind zones =
    flat_map (λ (zone : Saved). if is_of kind zone.0.name.kind then map (λ (r : ZoneReading). r.log) (found zone.1)
    else []) zones

-- a dump's record leaves its time line away; a dump without one is not listed
abbrev pub dump_of : ℕ → List ℕ → Option TimeLine → List Listed
dump_of index log None = []
dump_of index log (Some line) = record {
  name = DumpName index line.packed;
  content = drop line.len log;
  time = Some line.time;
} ∷ []

-- the records of the dump zones
abbrev pub dumps_of : List Saved → List Listed
dumps_of zones =
    flat_map (λ (zone : Saved). if is_of Dump zone.0.name.kind then flat_map
    (λ (r : ZoneReading). dump_of zone.0.name.index r.log (read_line r.log)) (found zone.1) else []) zones

-- the record of a console or pmsg zone is its log
abbrev pub plain : Name → List (List ℕ) → List Listed
plain name logs = map (λ log. record { name = name; content = log; time = None }) logs

-- all ftrace zones that were found make one record
abbrev pub ftrace_of : List (List ℕ) → List Listed
ftrace_of [] = []
ftrace_of (log ∷ logs) = record { name = FtraceName; content = merged (log ∷ logs); time = None } ∷ []

-- the listed records in order: dumps by rising number, console, pmsg, ftrace
abbrev pub listed_of : List Saved → List Listed
listed_of zones = dumps_of zones ++ plain ConsoleName (logs_of Console zones) ++ plain PmsgName (logs_of Pmsg zones)
    ++ ftrace_of (logs_of Ftrace zones)

-- the first of a list
abbrev pub first_listed : List Listed → Option Listed
first_listed [] = None
first_listed (r ∷ rs) = Some r

-- the listed record of this name
abbrev pub record_of : List Saved → Name → Option Listed
record_of zones name = first_listed (filter (λ (r : Listed). is_name r.name name) (listed_of zones))
