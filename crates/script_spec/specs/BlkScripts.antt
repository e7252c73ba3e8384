-- What the lines of a script do and put on the block store
use Rattle.std.specs.Prelude.{◌≡◌, ◌⊎◌, ℕ, ◌+◌, ◌<◌, ◌==◌, if◌then◌else◌, List, [], ◌∷◌, ◌++◌, length, take, drop}
use Rattle.std.specs.Prelude.{flat_map, slice_get, fold, codes, decimal, bytes_eq, Option, Some, None, Result, Ok, Err}
use Rattle.std.specs.List.{find}
use Rattle.zone_spec.specs.declared.Kind.{Kind}
use Rattle.zone_spec.specs.declared.Kind.TheVariants.{Console as ConsoleZone, Pmsg as PmsgZone}
use Rattle.blk_spec.specs.declared.BlkLayout.{BlkLayout}
use Rattle.blk_spec.specs.declared.BlkRing.{BlkRing}
use Rattle.blk_spec.specs.declared.BlkRing.TheVariants.{Console as ConsoleRing, Pmsg as PmsgRing}
use Rattle.blk_spec.specs.declared.BlkTime.{BlkTime}
use Rattle.blk_spec.specs.declared.BlkName.{BlkName}
use Rattle.blk_spec.specs.declared.BlkName.TheVariants.{Dump as DumpName}
use Rattle.kmsg_spec.specs.Reasons.{reason_of}
use Rattle.blk_spec.specs.Writes.{Write as StoreWrite, bytes_in, reaching}
use Rattle.blk_spec.specs.Names.{name_text}
use Rattle.blk_spec.specs.States.{BlkState, load_writes, append_of, dump_of, erase_of, names_of, content_of, time_of}
use Rattle.blk_spec.specs.Session.{Session, Operation, Load, Append, AppendElsewhere, Dump as DumpNow}
use Rattle.blk_spec.specs.Session.{CutAfter as CutNow, ListAll, Extract as ExtractRecord, Erase as EraseRecord}
use Rattle.blk_spec.specs.Session.{Cause as SessionCause, IsOff as IsOffThere, NoZone as NoZoneThere}
use Rattle.blk_spec.specs.Session.{NoRecord as NoRecordThere, cause_of, session_after, begun}
use Rattle.grammar_spec.specs.Fields.{Text}
use Rattle.grammar_spec.specs.declared.line.Line.{Line}
use Rattle.grammar_spec.specs.declared.line.Line.TheVariants.{Blank, Write, Boot, List as ListLine, Extract, Erase}
use Rattle.grammar_spec.specs.declared.line.Line.TheVariants.{KDump, CutAfter}
use Rattle.script_spec.specs.Texts.{newline}
use Rattle.script_spec.specs.declared.Cause.{Cause}
use Rattle.script_spec.specs.declared.Cause.TheVariants.{IsOff, NoZone, NoRecord, NotHere}

-- ---- texts

-- nine digits of a number below 1000000000
abbrev pub nine_digits : ℕ → Text
nine_digits n = drop 1 (decimal (1000000000 + n))

-- ` SECS.NANOS`, where a record has a time: a dump has one
abbrev pub blk_time_text : Option BlkTime → Text
blk_time_text None = []
blk_time_text (Some time) = codes " " ++ decimal time.secs ++ codes "." ++ nine_digits time.nanos

abbrev pub record_time : BlkState → BlkName → Option BlkTime
record_time b (DumpName index packed) = time_of b index
record_time b other = None

-- a record's content, with a dump's heading; each listed record has one
abbrev pub or_empty : Option Text → Text
or_empty None = []
or_empty (Some bytes) = bytes

abbrev pub content_in : BlkState → BlkName → Text
content_in b name = or_empty (content_of b name)

-- `NAME LENGTH`: the length is that of the content
abbrev pub blk_record_text : BlkState → BlkName → Text
blk_record_text b name = name_text name ++ codes " " ++ decimal (length (content_in b name))

-- `records N`, and a line for each record
abbrev pub blk_listing : BlkState → Text
blk_listing b =
    codes "records " ++ decimal (length (names_of b)) ++ newline
    ++ flat_map (λ name. blk_record_text b name ++ blk_time_text (record_time b name) ++ newline) (names_of b)

-- a record's name, length and content
abbrev pub blk_extract_text : BlkState → BlkName → Text
blk_extract_text b name = blk_record_text b name ++ newline ++ content_in b name ++ newline

-- ---- a line as an operation of the session

-- the ring of a zone's kind; the other kinds have none
abbrev pub ring_for : Kind → Option BlkRing
ring_for ConsoleZone = Some ConsoleRing
ring_for PmsgZone = Some PmsgRing
ring_for other = None

abbrev pub append_to : Option BlkRing → List ℕ → Operation
append_to None bytes = AppendElsewhere
append_to (Some ring) bytes = Append ring bytes

-- the listed record whose name has this text
abbrev pub blk_named : Option BlkState → Text → Option BlkName
blk_named None text = None
blk_named (Some b) text = find (λ name. bytes_eq (name_text name) text) (names_of b)

-- None where a line is blank, or is one of the other store alone
unfoldable pub operation_of : Option BlkState → Line → Option Operation
operation_of blk (Write zone bytes) = Some (append_to (ring_for zone.kind) bytes)
operation_of blk (KDump secs nanos packed reason bytes) =
    Some (DumpNow (record { secs = secs; nanos = nanos }) packed (reason_of reason) bytes)
operation_of blk (CutAfter limit) = Some (CutNow limit)
operation_of blk Boot = Some Load
operation_of blk ListLine = Some ListAll
operation_of blk (Extract name) = Some (ExtractRecord (blk_named blk name))
operation_of blk (Erase name) = Some (EraseRecord (blk_named blk name))
operation_of blk other = None

-- ---- what a line does

-- what a line that was done leaves and puts
pub record BlkDone : Type 0 where
  pub session : Session
  pub text : Text

-- the cause of a refused operation in the script's words
abbrev pub blk_line_cause : SessionCause → Cause
blk_line_cause IsOffThere = IsOff
blk_line_cause NoZoneThere = NoZone
blk_line_cause NoRecordThere = NoRecord

-- what an operation that was done puts: a listing, or a record
abbrev pub put_loaded : BlkState → Operation → Text
put_loaded b ListAll = blk_listing b
put_loaded b (ExtractRecord (Some name)) = blk_extract_text b name
put_loaded b other = []

abbrev pub put_by : Option BlkState → Operation → Text
put_by None operation = []
put_by (Some b) operation = put_loaded b operation

abbrev pub done_unless : Option SessionCause → BlkDone → Result BlkDone Cause
done_unless None done = Ok done
done_unless (Some cause) done = Err (blk_line_cause cause)

-- an operation as a line does it
abbrev pub performs : BlkLayout → Session → Operation → Result BlkDone Cause
performs layout session operation =
    done_unless (cause_of session.blk operation) (record {
      session = session_after layout session operation;
      text = put_by session.blk operation;
    })

abbrev pub performs_if : BlkLayout → Session → Option Operation → Result BlkDone Cause
performs_if layout session None = Err NotHere
performs_if layout session (Some operation) = performs layout session operation

-- what a line does in a session, or its cause of refusal
unfoldable pub blk_line_done : BlkLayout → Session → Line → Result BlkDone Cause
blk_line_done layout session Blank = Ok (record { session = session; text = [] })
blk_line_done layout session line = performs_if layout session (operation_of session.blk line)

-- ---- what a line writes

-- what reaches the store of an operation's writes
abbrev pub writes_loaded : BlkState → Operation → List StoreWrite
writes_loaded b Load = load_writes b.layout
writes_loaded b (Append ring payload) = reaching b.cut (append_of b ring payload)
writes_loaded b (DumpNow time packed reason body) = reaching b.cut (dump_of b time packed reason body)
writes_loaded b (EraseRecord (Some name)) = reaching b.cut (erase_of b name)
writes_loaded b other = []

abbrev pub writes_off : BlkLayout → Operation → List StoreWrite
writes_off layout Load = load_writes layout
writes_off layout other = []

abbrev pub writes_by : BlkLayout → Option BlkState → Operation → List StoreWrite
writes_by layout None operation = writes_off layout operation
writes_by layout (Some b) operation = writes_loaded b operation

abbrev pub writes_if : BlkLayout → Option BlkState → Option Operation → List StoreWrite
writes_if layout blk None = []
writes_if layout blk (Some operation) = writes_by layout blk operation

abbrev pub line_writes : BlkLayout → Option BlkState → Line → List StoreWrite
line_writes layout blk line = writes_if layout blk (operation_of blk line)

-- a line needs the store if it loads it, which reads it too, or if some byte of its writes reaches it
abbrev pub NeedsStore : BlkLayout → Option BlkState → Line → Type 0
NeedsStore layout blk line = (line ≡ Boot) ⊎ (0 < bytes_in (line_writes layout blk line))

-- ---- all lines

-- a script so far: the session, the text of each finished line, and the cause of the line behind them, if it
-- was refused
pub record BlkRan : Type 0 where
  pub session : Session
  pub texts : List Text
  pub refused : Option Cause

-- after a refused line no other is done
abbrev pub blk_ran_on : BlkRan → Option Cause → Result BlkDone Cause → BlkRan
blk_ran_on ran (Some cause) next = ran
blk_ran_on ran None (Ok done) = record { session = done.session; texts = ran.texts ++ done.text ∷ []; refused = None }
blk_ran_on ran None (Err cause) = record ran { refused = Some cause }

abbrev pub blk_next_line : BlkLayout → BlkRan → Line → BlkRan
blk_next_line layout ran line = blk_ran_on ran ran.refused (blk_line_done layout ran.session line)

-- a session begins unloaded
abbrev pub blk_started : List ℕ → BlkRan
blk_started store = record { session = begun store; texts = []; refused = None }

-- a script on a store's bytes
abbrev pub blk_ran : BlkLayout → List ℕ → List Line → BlkRan
blk_ran layout store lines = fold (blk_next_line layout) (blk_started store) lines

-- no line of those that are done writes a byte
abbrev pub WriteNothing : BlkLayout → List ℕ → List Line → Type 0
WriteNothing layout store lines =
    (i : ℕ) (line : Line) → i < length (blk_ran layout store lines).texts → slice_get lines i ≡ Some line
    → bytes_in (line_writes layout (blk_ran layout store (take i lines)).session.blk line) ≡ 0
