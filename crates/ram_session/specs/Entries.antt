-- The texts of listed records
use Rattle.std.specs.Prelude.{◌≡◌, ℕ, if◌then◌else◌, List, ◌++◌, codes, decimal, Option, Some, None, Result, Ok, Err}
use Rattle.std.specs.Option.{option_map, IsSome}
use Rattle.std.specs.Global.{Vec}
use Rattle.zone_spec.specs.Names.{name_text}
use Rattle.zone_spec.specs.Records.{Listed}
use Rattle.pstore_records.specs.declared.records.ContentFault.{ContentFault}
use Rattle.pstore_records.specs.declared.records.ContentFault.TheVariants.{NoRecord, Memory}
use Rattle.pstore_records.specs.declared.table.Entry.{Entry}
use Rattle.pstore_records.specs.declared.moving.Move.{Move}
use Rattle.script_spec.specs.Texts.{newline, time_text}

-- the line of a record
abbrev pub entry_text : Entry → List ℕ
entry_text e = (name_text e.name ++ codes " " ++ decimal e.len) ++ time_text e.time ++ newline

-- the line of a record that is moved or left
abbrev pub told_text : Move → List ℕ
told_text m = (if m.fits then codes "moved " else codes "left ") ++ (name_text m.name ++ codes " " ++ decimal m.len)
    ++ codes " corrected " ++ decimal m.corrected ++ codes " bad " ++ decimal m.bad ++ newline

-- a text made of a record by f; no record only where there is none, and out of memory only where there is one
abbrev pub IsText : (Listed → List ℕ) → Option Listed → Result (Vec ℕ) ContentFault → Type 0
IsText f listed (Ok text) = option_map f listed ≡ Some text.items
IsText f listed (Err NoRecord) = listed ≡ None
IsText f listed (Err Memory) = IsSome listed
