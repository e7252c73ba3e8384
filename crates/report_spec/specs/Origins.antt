-- The names of records, by where they come from
use Rattle.std.specs.Prelude.{ℕ, List}
use Rattle.psz_spec.specs.declared.Name.{Name as StorageName}
use Rattle.psz_spec.specs.declared.Name.TheVariants.{Dump as StorageDump, Ftrace as StorageFtrace}
use Rattle.psz_spec.specs.declared.Name.TheVariants.{Pmsg as StoragePmsg, Console as StorageConsole}
use Rattle.psz_spec.specs.Records.{name_text as storage_text}
use Rattle.zone_spec.specs.declared.Name.{Name}
use Rattle.zone_spec.specs.declared.Name.TheVariants.{Dump, Console, Pmsg, Ftrace}
use Rattle.zone_spec.specs.Names.{name_text as region_text}
use Rattle.report_spec.specs.declared.Origin.{Origin}
use Rattle.report_spec.specs.declared.Origin.TheVariants.{Region, Storage}

-- the record of a storage that has this name
abbrev pub storage_name : Name → StorageName
storage_name (Dump index packed) = StorageDump index packed
storage_name Console = StorageConsole
storage_name Pmsg = StoragePmsg
storage_name Ftrace = StorageFtrace

-- the name of a record's file in a mounted pstore
abbrev pub name_in : Origin → Name → List ℕ
name_in Region name = region_text name
name_in Storage name = storage_text (storage_name name)
