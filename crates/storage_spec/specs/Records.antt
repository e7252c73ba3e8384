-- The records of a storage, as a report holds those of a region before it shows them
use Rattle.std.specs.Prelude.{ℕ, ◌/◌, ◌^◌, ◌==◌, nat_lt, not, ◌&&◌, if◌then◌else◌, List, [], ◌∷◌, map, flat_map}
use Rattle.std.specs.Prelude.{Option, Some, None}
use Rattle.std.specs.Option.{option_and_then}
use Rattle.psz_spec.specs.declared.Name.{Name as StorageName}
use Rattle.psz_spec.specs.declared.Name.TheVariants.{Dump as StorageDump, Ftrace as StorageFtrace}
use Rattle.psz_spec.specs.declared.Name.TheVariants.{Pmsg as StoragePmsg, Console as StorageConsole}
use Rattle.psz_spec.specs.declared.DumpHeader.{DumpHeader}
use Rattle.psz_spec.specs.declared.Machine.{Machine}
use Rattle.psz_spec.specs.declared.Sizes.{Sizes}
use Rattle.psz_spec.specs.Records.{Listed, listed_of}
use Rattle.zone_spec.specs.declared.Name.{Name}
use Rattle.zone_spec.specs.declared.Name.TheVariants.{Dump, Ftrace, Pmsg, Console}
use Rattle.zone_spec.specs.declared.Time.{Time}
use Rattle.zone_spec.specs.Ftrace.{merged}
use Rattle.zone_spec.specs.RecordsHeld.{RecordHeld}

abbrev pub name_in : StorageName → Name
name_in (StorageDump index packed) = Dump index packed
name_in StorageFtrace = Ftrace
name_in StoragePmsg = Pmsg
name_in StorageConsole = Console

-- a dump's time. Of 0 seconds the kernel shows the time at which it reads, and no record has a time before 1970: both
-- have none, so they are never the newest
abbrev pub time_of : DumpHeader → Option Time
time_of h =
    if nat_lt 0 h.secs && nat_lt h.secs (2 ^ 63) then Some (record { secs = h.secs; micros = h.nanos / 1000 })
    else None

-- the logs of the ftrace zones are merged; any other record has one log
abbrev pub content_in : StorageName → List (List ℕ) → List ℕ
content_in StorageFtrace logs = merged logs
content_in (StorageDump index packed) logs = flat_map (λ log. log) logs
content_in StoragePmsg logs = flat_map (λ log. log) logs
content_in StorageConsole logs = flat_map (λ log. log) logs

-- no record of a storage has a notice
abbrev pub held_of : Listed → RecordHeld
held_of r = record {
  name = name_in r.name;
  time = option_and_then time_of r.header;
  content = content_in r.name r.logs;
  notice = [];
}

-- the records that the next boot lists, in the order in which the kernel reads
unfoldable pub held_in : Machine → Sizes → List ℕ → List RecordHeld
held_in machine sizes image = map held_of (listed_of machine sizes image)
