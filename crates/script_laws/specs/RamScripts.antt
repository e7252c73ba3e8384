-- What the lines of a script on the ram store write, and what the next boot reads of it
use Rattle.std.specs.Prelude.{◌≡◌, ℕ, false, if◌then◌else◌, is_some, List, [], ◌∷◌, ◌++◌, length, slice_get, Option}
use Rattle.std.specs.Prelude.{Some, None}
use Rattle.std.specs.Option.{option_map, option_map_or}
use Rattle.zone_spec.specs.declared.Zone.{Zone}
use Rattle.zone_spec.specs.Parts.{AreBytes}
use Rattle.zone_spec.specs.Records.{Listed}
use Rattle.zone_spec.specs.Layouts.{IsLayout}
use Rattle.machine_spec.specs.Zones.{zone_bytes}
use Rattle.machine_spec.specs.States.{OffZone, OffState, Session, Off, Live}
use Rattle.machine_spec.specs.Off.{fresh}
use Rattle.machine_spec.specs.Erasures.{saved_logs}
use Rattle.machine_spec.specs.LiveCalls.{Append as AppendAsk, Erase as EraseAsk, Dump as DumpAsk}
use Rattle.machine_spec.specs.Operations.{Operation, Begin as BeginCall, Make as MakeCall, Step as StepFlight}
use Rattle.machine_spec.specs.Operations.{Finish as FinishFlight, Flip as FlipByte, Boot as BootStore}
use Rattle.machine_spec.specs.Operations.{BootPart as BootInPart, EraseRecord, Stop as StopStore, session_after}
use Rattle.grammar_spec.specs.declared.line.Line.{Line}
use Rattle.grammar_spec.specs.declared.line.Line.TheVariants.{Write, Dump, BeginWrite, BeginErase, BeginDump, Step}
use Rattle.grammar_spec.specs.declared.line.Line.TheVariants.{Finish, Stop, Flip, Boot, BootPart, Erase, Crash}
use Rattle.grammar_spec.specs.Printed.{AllHaveFields}
use Rattle.script_spec.specs.Scripts.{Kernel, Ran, ran, next_line, started, named, crash_body}
use Rattle.history_spec.specs.Written.{written_in}
use Rattle.history_laws.specs.Headline.{ReadsWritten}

-- the operation that a line is, in a state and beside a kernel; comments, listings, extracts and printed lines are none
abbrev pub operation_of : List Zone → Session → Kernel → Line → Option Operation
operation_of layout session kernel (Write zone bytes) = Some (MakeCall (AppendAsk zone bytes))
operation_of layout session kernel (Dump time packed bytes) = Some (MakeCall (DumpAsk time packed bytes))
operation_of layout session kernel (BeginWrite zone bytes) = Some (BeginCall (AppendAsk zone bytes))
operation_of layout session kernel (BeginErase zone) = Some (BeginCall (EraseAsk zone))
operation_of layout session kernel (BeginDump time packed bytes) = Some (BeginCall (DumpAsk time packed bytes))
operation_of layout session kernel (Step zone k) = Some (StepFlight zone k)
operation_of layout session kernel (Finish zone) = Some (FinishFlight zone)
operation_of layout session kernel Stop = Some StopStore
operation_of layout session kernel (Flip place mask) = Some (FlipByte place mask)
operation_of layout session kernel Boot = Some BootStore
operation_of layout session kernel (BootPart k) = Some (BootInPart k)
operation_of layout (Live live) kernel (Erase name) = option_map (λ (r : Listed). EraseRecord r.name)
    (named (saved_logs layout live) name)
operation_of layout (Live live) kernel (Crash reason time) =
    Some (MakeCall (DumpAsk time false (crash_body layout live kernel reason time)))
operation_of layout session kernel other = None

-- the operations of a script's lines up to the first that is refused, each in the state that those before it leave
unfoldable pub operations_from : List Zone → Ran → List Line → List Operation
operations_from layout r [] = []
operations_from layout r (line ∷ lines) =
    (if is_some r.refused then []
    else option_map_or (λ (o : Operation). o ∷ []) (operation_of layout r.session r.kernel line) [])
    ++ operations_from layout (next_line layout r line) lines

-- those of a script on an image
abbrev pub script_operations : List Zone → List ℕ → List Line → List Operation
script_operations layout image lines = operations_from layout (started layout image) lines

-- what a script's lines wrote to the i-th zone since its erasure, None as long as no boot has finished it
abbrev pub script_written : List Zone → List ℕ → List Line → ℕ → Zone → Option (List ℕ)
script_written layout image lines i z = written_in layout image (script_operations layout image lines) i z

-- a script leaves what its operations leave
abbrev pub RamScriptsAreSessions : Type 0
RamScriptsAreSessions = (layout : List Zone) (image : List ℕ) (lines : List Line)
    → (ran layout image lines).session
    ≡ session_after layout (Off (fresh layout image)) (script_operations layout image lines)

-- where the machine is off behind a script, the next boot reads of each zone what the lines wrote to it
abbrev pub ScriptReadsWritten : List Zone → List ℕ → List Line → Type 0
ScriptReadsWritten layout image lines = (off : OffState) (i : ℕ) (z : Zone) (zone : OffZone) (bytes : List ℕ)
    → (ran layout image lines).session ≡ Off off → slice_get layout i ≡ Some z → slice_get off.zones i ≡ Some zone
    → script_written layout image lines i z ≡ Some bytes
    → ReadsWritten z zone.cut zone.stop (zone_bytes z off.image) bytes

-- it is so of every script
abbrev pub ScriptsReadWritten : Type 0
ScriptsReadWritten = (layout : List Zone) (mem : ℕ) (image : List ℕ) (lines : List Line) → IsLayout layout mem
    → length image ≡ mem → AreBytes image → AllHaveFields lines → ScriptReadsWritten layout image lines
