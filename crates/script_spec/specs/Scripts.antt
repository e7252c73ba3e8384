-- What the lines of a script do and put
use Rattle.std.specs.Prelude.{ℕ, ◌+◌, ◌-◌, ◌==◌, false, nat_lt, if◌then◌else◌, length, List, [], ◌∷◌, ◌++◌, filter}
use Rattle.std.specs.Prelude.{fold, bytes_eq, Option, Some, None, Result, Ok, Err}
use Rattle.zone_spec.specs.declared.Zone.{Zone}
use Rattle.zone_spec.specs.declared.Time.{Time}
use Rattle.zone_spec.specs.declared.Kind.TheVariants.{Dump as DumpKind}
use Rattle.zone_spec.specs.declared.Refusal.{Refusal}
use Rattle.zone_spec.specs.declared.Refusal.TheVariants.{NoZone as NoZoneThere, Busy as BusyThere, Idle as IdleThere}
use Rattle.zone_spec.specs.declared.Refusal.TheVariants.{OutOfImage as OutOfImageThere}
use Rattle.zone_spec.specs.TimeLines.{line_text}
use Rattle.zone_spec.specs.Names.{name_text}
use Rattle.zone_spec.specs.Records.{Saved, Listed, listed_of, first_listed}
use Rattle.machine_spec.specs.States.{LiveState, Session, Off, Live}
use Rattle.machine_spec.specs.Off.{fresh}
use Rattle.machine_spec.specs.Boot.{booted}
use Rattle.machine_spec.specs.BootPart.{boot_made}
use Rattle.machine_spec.specs.Report.{report}
use Rattle.machine_spec.specs.Erasures.{saved_logs}
use Rattle.machine_spec.specs.LiveZones.{Target, target}
use Rattle.machine_spec.specs.LiveCalls.{Append as AppendAsk, Erase as EraseAsk, Dump as DumpAsk}
use Rattle.machine_spec.specs.Operations.{Operation, operated, Begin as BeginCall, Make as MakeCall, Step as StepFlight}
use Rattle.machine_spec.specs.Operations.{Finish as FinishFlight, Flip as FlipByte, Boot as BootStore}
use Rattle.machine_spec.specs.Operations.{BootPart as BootInPart, EraseRecord, Stop as StopStore, Cause as SessionCause}
use Rattle.machine_spec.specs.Operations.{WrongState, NoRecord as NoSuchRecord, Refused as RefusedThere}
use Rattle.kmsg_spec.specs.Bodies.{body, last_lines}
use Rattle.kmsg_spec.specs.Reasons.{reason_of}
use Rattle.grammar_spec.specs.Fields.{Text}
use Rattle.grammar_spec.specs.declared.line.Line.{Line}
use Rattle.grammar_spec.specs.declared.line.Line.TheVariants.{Blank, Write, Dump, BeginWrite, BeginErase, BeginDump}
use Rattle.grammar_spec.specs.declared.line.Line.TheVariants.{Step, Finish, Stop, Flip, Boot, BootPart}
use Rattle.grammar_spec.specs.declared.line.Line.TheVariants.{List as ListLine, Extract, Erase, KMsg, Crash}
use Rattle.script_spec.specs.Texts.{boot_text, part_text, listing, extract_text}
use Rattle.script_spec.specs.declared.Cause.{Cause}
use Rattle.script_spec.specs.declared.Cause.TheVariants.{IsOff, IsLive, NoZone, Busy, Idle, OutOfImage, NoRecord}
use Rattle.script_spec.specs.declared.Cause.TheVariants.{NotHere, TooLong}

-- what a line of the store that was done leaves and puts
pub record StoreDone : Type 0 where
  pub session : Session
  pub text : Text

-- ---- a line that is an operation of the machine

-- the cause of a refused operation in the script's words; an operation of the other state names the state
abbrev pub refusal_cause : Refusal → Cause
refusal_cause NoZoneThere = NoZone
refusal_cause BusyThere = Busy
refusal_cause IdleThere = Idle
refusal_cause OutOfImageThere = OutOfImage

abbrev pub line_cause : Session → SessionCause → Cause
line_cause (Off off) WrongState = IsOff
line_cause (Live live) WrongState = IsLive
line_cause session NoSuchRecord = NoRecord
line_cause session (RefusedThere why) = refusal_cause why

-- what an operation that was done puts: a boot its lines, and a boot that is cut how many stores it made
abbrev pub put_by : List Zone → Session → Operation → Text
put_by layout (Off off) BootStore = boot_text (saved_logs layout (booted layout off)) (report layout off)
put_by layout (Off off) (BootInPart limit) = part_text (boot_made layout limit off)
put_by layout session other = []

abbrev pub done_or_refused : Session → Text → Result Session SessionCause → Result StoreDone Cause
done_or_refused session text (Ok next) = Ok (record { session = next; text = text })
done_or_refused session text (Err cause) = Err (line_cause session cause)

-- an operation as a line does it
abbrev pub does : List Zone → Session → Operation → Result StoreDone Cause
does layout session operation = done_or_refused session (put_by layout session operation)
    (operated layout session operation)

-- ---- a line that speaks of records

-- the listed record whose name has this text
abbrev pub named : List Saved → Text → Option Listed
named zones text = first_listed (filter (λ (r : Listed). bytes_eq (name_text r.name) text) (listed_of zones))

-- the listing of the last boot's logs
abbrev pub lists : List Zone → Session → Result StoreDone Cause
lists layout (Off off) = Err IsOff
lists layout (Live live) = Ok (record { session = Live live; text = listing (saved_logs layout live) })

abbrev pub extracts_of : List Zone → LiveState → Option Listed → Result StoreDone Cause
extracts_of layout live None = Err NoRecord
extracts_of layout live (Some r) = Ok (record { session = Live live; text = extract_text (saved_logs layout live) r })

-- the content of a record
abbrev pub extracts : List Zone → Session → Text → Result StoreDone Cause
extracts layout (Off off) name = Err IsOff
extracts layout (Live live) name = extracts_of layout live (named (saved_logs layout live) name)

abbrev pub erases_of : List Zone → LiveState → Option Listed → Result StoreDone Cause
erases_of layout live None = Err NoRecord
erases_of layout live (Some r) = does layout (Live live) (EraseRecord r.name)

-- the erasure of a record
abbrev pub erases : List Zone → Session → Text → Result StoreDone Cause
erases layout (Off off) name = Err IsOff
erases layout (Live live) name = erases_of layout live (named (saved_logs layout live) name)

-- ---- the lines of the store

-- what a line of the store does in a state, or its cause of refusal; the lines of the kernel, of the block back end and
-- of a shared zone are not of the store
unfoldable pub store_line : List Zone → Session → Line → Result StoreDone Cause
store_line layout session Blank = Ok (record { session = session; text = [] })
store_line layout session (Write zone bytes) = does layout session (MakeCall (AppendAsk zone bytes))
store_line layout session (Dump time packed bytes) = does layout session (MakeCall (DumpAsk time packed bytes))
store_line layout session (BeginWrite zone bytes) = does layout session (BeginCall (AppendAsk zone bytes))
store_line layout session (BeginErase zone) = does layout session (BeginCall (EraseAsk zone))
store_line layout session (BeginDump time packed bytes) = does layout session (BeginCall (DumpAsk time packed bytes))
store_line layout session (Step zone k) = does layout session (StepFlight zone k)
store_line layout session (Finish zone) = does layout session (FinishFlight zone)
store_line layout session Stop = does layout session StopStore
store_line layout session (Flip place mask) = does layout session (FlipByte place mask)
store_line layout session Boot = does layout session BootStore
store_line layout session (BootPart k) = does layout session (BootInPart k)
store_line layout session ListLine = lists layout session
store_line layout session (Extract name) = extracts layout session name
store_line layout session (Erase name) = erases layout session name
store_line layout session other = Err NotHere

-- ---- the kernel of a live machine

-- the lines that it printed since its boot, and how many crashes it had
pub record Kernel : Type 0 where
  pub printed : List (List ℕ)
  pub crashes : ℕ

-- that of a boot, and of a machine that is off
abbrev pub new_kernel : Kernel
new_kernel = record { printed = []; crashes = 0 }

-- the bytes that its message log holds
abbrev pub log_limit : ℕ
log_limit = 131072

-- what a line that was done leaves and puts
pub record Done : Type 0 where
  pub session : Session
  pub kernel : Kernel
  pub text : Text

-- a line of the store, and the kernel behind it
abbrev pub beside : Kernel → Result StoreDone Cause → Result Done Cause
beside kernel (Ok done) = Ok (record { session = done.session; kernel = kernel; text = done.text })
beside kernel (Err cause) = Err cause

-- a line that the kernel prints, and that fits in its log with its newline
abbrev pub prints : Session → Kernel → List ℕ → Result Done Cause
prints (Off off) kernel text = Err IsOff
prints (Live live) kernel text =
    if nat_lt log_limit (length text + 1) then Err TooLong
    else Ok (record {
      session = Live live;
      kernel = record kernel { printed = kernel.printed ++ text ∷ [] };
      text = [];
    })

-- what a zone has for a dump's body, behind the time line
abbrev pub room_in : Option Target → Time → ℕ
room_in None time = 0
room_in (Some t) time = t.zone.cap - length (line_text time false)

-- the zone that the next dump goes to
abbrev pub dump_target : List Zone → LiveState → Option Target
dump_target layout live = target layout live (record { kind = DumpKind; index = live.cursor })

-- what a crash dumps of the message log
abbrev pub crash_body : List Zone → LiveState → Kernel → ℕ → Time → List ℕ
crash_body layout live kernel reason time =
    body (reason_of reason) (kernel.crashes + 1) (room_in (dump_target layout live) time)
    (last_lines log_limit kernel.printed)

abbrev pub crashed : Kernel → Kernel
crashed kernel = record kernel { crashes = kernel.crashes + 1 }

-- a crash is a dump of this body; a refused one is not counted
abbrev pub crashes : List Zone → Session → Kernel → ℕ → Time → Result Done Cause
crashes layout (Off off) kernel reason time = Err IsOff
crashes layout (Live live) kernel reason time =
    beside (crashed kernel) (store_line layout (Live live) (Dump time false
    (crash_body layout live kernel reason time)))

-- ---- all lines

-- what a line does in a state, or its cause of refusal: a boot begins the kernel anew, and a stop loses it
unfoldable pub line_done : List Zone → Session → Kernel → Line → Result Done Cause
line_done layout session kernel (KMsg text) = prints session kernel text
line_done layout session kernel (Crash reason time) = crashes layout session kernel reason time
line_done layout session kernel Boot = beside new_kernel (store_line layout session Boot)
line_done layout session kernel Stop = beside new_kernel (store_line layout session Stop)
line_done layout session kernel other = beside kernel (store_line layout session other)

-- a script so far: the state, the kernel, the text of each finished line, and the cause of the line behind them, if it
-- was refused
pub record Ran : Type 0 where
  pub session : Session
  pub kernel : Kernel
  pub texts : List Text
  pub refused : Option Cause

-- after a refused line no other is done
abbrev pub ran_on : Ran → Option Cause → Result Done Cause → Ran
ran_on ran (Some cause) next = ran
ran_on ran None (Ok done) = record {
  session = done.session;
  kernel = done.kernel;
  texts = ran.texts ++ done.text ∷ [];
  refused = None;
}
ran_on ran None (Err cause) = record ran { refused = Some cause }

abbrev pub next_line : List Zone → Ran → Line → Ran
next_line layout ran line = ran_on ran ran.refused (line_done layout ran.session ran.kernel line)

-- nothing is done yet on an image of which nothing is known
abbrev pub started : List Zone → List ℕ → Ran
started layout image = record {
  session = Off (fresh layout image);
  kernel = new_kernel;
  texts = [];
  refused = None;
}

-- a script on an image
abbrev pub ran : List Zone → List ℕ → List Line → Ran
ran layout image lines = fold (next_line layout) (started layout image) lines
