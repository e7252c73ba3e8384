-- How a line of a script is done on the block store
use Rattle.std.specs.Prelude.{◌≡◌, ◌≢◌, ◌⊎◌, ⊤, ℕ, ◌<◌, List, Option, Some, None, IsSome, Result, Ok, Err}
use Rattle.std.specs.Option.{option_map}
use Rattle.std.specs.Global.{Vec}
use Rattle.outside.specs.Outside.{Rose}
use Rattle.blk_spec.specs.declared.BlkLayout.{BlkLayout}
use Rattle.blk_spec.specs.declared.BlkFault.{BlkFault}
use Rattle.blk_spec.specs.declared.BlkFault.TheVariants.{NoZone as NoZoneThere, NoRecord as NoRecordThere}
use Rattle.blk_spec.specs.declared.BlkFault.TheVariants.{StoreFault as StoreFaultThere, Memory as MemoryThere}
use Rattle.blk_spec.specs.Writes.{bytes_in}
use Rattle.blk_spec.specs.States.{BlkState}
use Rattle.blk_spec.specs.Session.{Operation}
use Rattle.blk_spec.specs.Answers.{Device, HasFront, IsUnwritten, further}
use Rattle.grammar_spec.specs.Fields.{Text}
use Rattle.grammar_spec.specs.declared.line.Line.{Line}
use Rattle.grammar_spec.specs.declared.line.Line.TheVariants.{Write, Boot, List as ListLine, Extract, Erase, KDump}
use Rattle.grammar_spec.specs.declared.line.Line.TheVariants.{CutAfter}
use Rattle.script_spec.specs.BlkScripts.{BlkDone, blk_line_done, line_writes, NeedsStore, performs}
use Rattle.script_spec.specs.BlkScripts.{writes_by, blk_named, blk_extract_text}
use Rattle.blk_session.specs.Asked.{line_asks, asks_by, FailsBy, FailsAtLine}
use Rattle.script_spec.specs.Playing.{TakesMemory}
use Rattle.script_spec.specs.declared.Cause.{Cause}
use Rattle.script_spec.specs.declared.Cause.TheVariants.{NoZone, NoRecord}
use Rattle.blk_session.specs.declared.errors.LineError.{LineError}
use Rattle.blk_session.specs.declared.errors.LineError.TheVariants.{Memory, StoreFault, Refused}

-- what is wanted was done: the store then holds its bytes, and this is loaded and put
pub record IsDone (wanted : Result BlkDone Cause) (new : Option BlkState) (text : Text)
    (now : Option (List ℕ)) : Type 0 where
  pub after : List ℕ
  pub holds : now ≡ Some after
  pub done : wanted ≡ Ok (record { session = record { store = after; blk = new }; text = text })

-- a line was done, on the bytes that the store told before: each piece of its writes asked the store once, and no
-- reading failed
pub record LineDone (layout : BlkLayout) (old : Option BlkState) (line : Line) (new : Option BlkState) (text : Text)
    (before now : Device) : Type 0 where
  pub told : (bytes : List ℕ) → before.holds ≡ Some bytes
      → IsDone (blk_line_done layout (record { store = bytes; blk = old }) line) new text now.holds
  pub asked : now.writes ≡ further (line_asks layout old line) before.writes
  pub unread : now.read_faults ≡ before.read_faults

-- what is wanted is not refused
pub record IsWanted (wanted : Result BlkDone Cause) : Type 0 where
  pub wants : BlkDone
  pub is : wanted ≡ Ok wants

-- a line that is not refused, whatever the store's bytes are
abbrev pub IsWantedLine : BlkLayout → Option BlkState → Line → Type 0
IsWantedLine layout old line =
    (bytes : List ℕ) → IsWanted (blk_line_done layout (record { store = bytes; blk = old }) line)

-- the store failed within a line, which needs it: it has some first bytes of what the line writes. A reading fails only
-- as the store is loaded, before any write.
pub record LineFaults (layout : BlkLayout) (old : Option BlkState) (line : Line) (before now : Device) : Type 0 where
  pub front : HasFront (line_writes layout old line) before.holds now.holds
  pub wanted : IsWantedLine layout old line
  pub needs : NeedsStore layout old line
  pub failed : FailsAtLine layout old line before now
  pub unwritten : bytes_in (line_writes layout old line) ≡ 0 → now.writes ≡ before.writes
  pub unread : ((line ≡ Boot) × IsUnwritten before now) ⊎ (now.read_faults ≡ before.read_faults)

-- why a line was not done: a refused one leaves the store, and so does one that found no memory, which it takes
abbrev pub LineFails : LineError → BlkLayout → Option BlkState → Line → Device → Device → ℕ → ℕ → Type 0
LineFails Memory layout old line before now faults faults' =
    IsUnwritten before now × TakesMemory line × IsWantedLine layout old line
    × ((line ≡ Boot) ⊎ (now.read_faults ≡ before.read_faults))
LineFails StoreFault layout old line before now faults faults' =
    Rose faults faults' × LineFaults layout old line before now
LineFails (Refused cause) layout old line before now faults faults' =
    (now ≡ before) × ((bytes : List ℕ) → blk_line_done layout (record { store = bytes; blk = old }) line ≡ Err cause)

-- a count of faults is as before, unless the store failed within the line
abbrev pub KeptUnlessFault : {T : Type 0} → Result T LineError → ℕ → ℕ → Type 0
KeptUnlessFault (Ok done) before now = now ≡ before
KeptUnlessFault (Err error) before now = error ≢ StoreFault → now ≡ before

-- the same of an append, a dump or an erasure, which takes no memory and does not read the store, and in which the
-- store fails only within bytes that reach it
pub record OperationDone (layout : BlkLayout) (old : Option BlkState) (operation : Operation) (new : Option BlkState)
    (text : Text) (before now : Device) : Type 0 where
  pub told : (bytes : List ℕ) → before.holds ≡ Some bytes
      → IsDone (performs layout (record { store = bytes; blk = old }) operation) new text now.holds
  pub asked : now.writes ≡ further (asks_by layout old operation) before.writes
  pub unread : now.read_faults ≡ before.read_faults

pub record OperationFaults (layout : BlkLayout) (old : Option BlkState) (operation : Operation)
    (before now : Device) : Type 0 where
  pub front : HasFront (writes_by layout old operation) before.holds now.holds
  pub wanted : (bytes : List ℕ) → IsWanted (performs layout (record { store = bytes; blk = old }) operation)
  pub some : 0 < bytes_in (writes_by layout old operation)
  pub failed : FailsBy layout old operation before now
  pub unread : now.read_faults ≡ before.read_faults

abbrev pub OperationFails : LineError → BlkLayout → Option BlkState → Operation → Device → Device → ℕ → ℕ → Type 0
OperationFails Memory layout old operation before now faults faults' = ⊥
OperationFails StoreFault layout old operation before now faults faults' =
    Rose faults faults' × OperationFaults layout old operation before now
OperationFails (Refused cause) layout old operation before now faults faults' =
    (now ≡ before) × ((bytes : List ℕ) → performs layout (record { store = bytes; blk = old }) operation ≡ Err cause)

-- a call that was not done, as a line tells it
abbrev pub error_of : BlkFault → LineError
error_of NoZoneThere = Refused NoZone
error_of NoRecordThere = Refused NoRecord
error_of StoreFaultThere = StoreFault
error_of MemoryThere = Memory

-- the text of the record whose name has a text; refused only where no listed record has it
abbrev pub IsExtract : BlkState → Text → Result (Vec ℕ) LineError → Type 0
IsExtract b name (Ok text) = option_map (blk_extract_text b) (blk_named (Some b) name) ≡ Some text.items
IsExtract b name (Err (Refused cause)) = (cause ≡ NoRecord) × (blk_named (Some b) name ≡ None)
IsExtract b name (Err Memory) = IsSome (blk_named (Some b) name)
IsExtract b name (Err StoreFault) = ⊥

-- a line of a call that changes what is loaded, and one that puts a text
abbrev pub IsCall : Line → Type 0
IsCall (Write zone bytes) = ⊤
IsCall (KDump secs nanos packed reason bytes) = ⊤
IsCall (CutAfter limit) = ⊤
IsCall (Erase name) = ⊤
IsCall other = ⊥

abbrev pub IsShown : Line → Type 0
IsShown ListLine = ⊤
IsShown (Extract name) = ⊤
IsShown other = ⊥
