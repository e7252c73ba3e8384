-- What is given of a listed record
use Rattle.std.specs.Prelude.{◌≡◌, ℕ, List, Option, Some, None, Result, Ok, Err}
use Rattle.std.specs.Option.{option_map, IsSome}
use Rattle.zone_spec.specs.Records.{Listed}
use Rattle.pstore_records.specs.declared.records.ContentFault.{ContentFault}
use Rattle.pstore_records.specs.declared.records.ContentFault.TheVariants.{NoRecord, Memory}

-- bytes made of a record by f; no record only where there is none, and out of memory only where there is one
abbrev pub IsGiven : (Listed → List ℕ) → Option Listed → Result (List ℕ) ContentFault → Type 0
IsGiven f listed (Ok bytes) = option_map f listed ≡ Some bytes
IsGiven f listed (Err NoRecord) = listed ≡ None
IsGiven f listed (Err Memory) = IsSome listed
