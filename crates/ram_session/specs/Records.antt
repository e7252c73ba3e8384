-- What is given of the record whose name has a text
use Rattle.std.specs.Prelude.{◌≡◌, ℕ, List, Some, None, IsSome, Result, Ok, Err}
use Rattle.std.specs.Option.{option_map}
use Rattle.zone_spec.specs.Records.{Saved}
use Rattle.zone_spec.specs.Notices.{content}
use Rattle.grammar_spec.specs.Fields.{Text}
use Rattle.script_spec.specs.Scripts.{named}
use Rattle.script_spec.specs.declared.Cause.TheVariants.{NoRecord}
use Rattle.ram_session.specs.declared.machine.LineError.{LineError}
use Rattle.ram_session.specs.declared.machine.LineError.TheVariants.{Memory, Refused}

-- the record's content with its notice; refused only where no record has the name, and then without taking memory
abbrev pub IsContent : List Saved → Text → Result (List ℕ) LineError → Type 0
IsContent zones text (Ok bytes) = option_map (content zones) (named zones text) ≡ Some bytes
IsContent zones text (Err (Refused cause)) = (cause ≡ NoRecord) × (named zones text ≡ None)
IsContent zones text (Err Memory) = IsSome (named zones text)
