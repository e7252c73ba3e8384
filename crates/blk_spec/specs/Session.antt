-- A session on the block store: its lines, what each makes of the store's bytes and of what is loaded, and what it
-- leaves where the store fails or memory is wanting
use Rattle.std.specs.Prelude.{ℕ, Bool, if◌then◌else◌, List, [], ◌∷◌, Option, Some, None}
use Rattle.blk_spec.specs.declared.BlkLayout.{BlkLayout}
use Rattle.blk_spec.specs.declared.BlkRing.{BlkRing}
use Rattle.blk_spec.specs.declared.BlkTime.{BlkTime}
use Rattle.blk_spec.specs.declared.BlkName.{BlkName}
use Rattle.blk_spec.specs.declared.BlkFault.{BlkFault}
use Rattle.blk_spec.specs.declared.BlkFault.TheVariants.{NoZone as NoZoneFault}
use Rattle.kmsg_spec.specs.declared.Reason.{Reason}
use Rattle.blk_spec.specs.Writes.{Write, after_writes, first_bytes, through, reaching, spent, bytes_in}
use Rattle.blk_spec.specs.States.{BlkState, loaded, load_writes, append_refusal, append_of, appended, dump_refusal}
use Rattle.blk_spec.specs.States.{dump_of, dumped, is_listed, erase_of, erased, cut_after}

-- a line of a session; a name is None where a text names no record
pub data Operation : Type 0 where
  Load : Operation
  Append : (ring : BlkRing) (payload : List ℕ) → Operation
  AppendElsewhere : Operation
  Dump : (time : BlkTime) (packed : Bool) (reason : Reason) (body : List ℕ) → Operation
  CutAfter : (limit : ℕ) → Operation
  ListAll : Operation
  Extract : (name : Option BlkName) → Operation
  Erase : (name : Option BlkName) → Operation

-- why a line is refused
pub data Cause : Type 0 where
  IsOff : Cause
  NoZone : Cause
  NoRecord : Cause

-- the store's bytes, and what is loaded, None before the first loading
pub record Session : Type 0 where
  pub store : List ℕ
  pub blk : Option BlkState

abbrev pub cause_for : Option BlkFault → Option Cause
cause_for None = None
cause_for (Some NoZoneFault) = Some NoZone
cause_for (Some other) = Some NoRecord

abbrev pub unless_listed : BlkState → Option BlkName → Option Cause
unless_listed b None = Some NoRecord
unless_listed b (Some name) = if is_listed b name then None else Some NoRecord

abbrev pub cause_loaded : BlkState → Operation → Option Cause
cause_loaded b Load = None
cause_loaded b (Append ring payload) = cause_for (append_refusal b ring)
cause_loaded b AppendElsewhere = Some NoZone
cause_loaded b (Dump time packed reason body) = cause_for (dump_refusal b)
cause_loaded b (CutAfter limit) = None
cause_loaded b ListAll = None
cause_loaded b (Extract name) = unless_listed b name
cause_loaded b (Erase name) = unless_listed b name

abbrev pub cause_off : Operation → Option Cause
cause_off Load = None
cause_off other = Some IsOff

unfoldable pub cause_of : Option BlkState → Operation → Option Cause
cause_of None operation = cause_off operation
cause_of (Some b) operation = cause_loaded b operation

-- a call with these writes, after which `next` stands but for its cut
abbrev pub called : List ℕ → BlkState → List Write → BlkState → Session
called store b ws next = record {
  store = after_writes (reaching b.cut ws) store;
  blk = Some (record next { cut = spent (bytes_in ws) b.cut });
}

abbrev pub load_session : BlkLayout → List ℕ → Session
load_session l store = record { store = after_writes (load_writes l) store; blk = Some (loaded l store) }

abbrev pub erase_named : List ℕ → BlkState → Option BlkName → Session
erase_named store b None = record { store = store; blk = Some b }
erase_named store b (Some name) = called store b (erase_of b name) (erased b name)

-- what a line that is not refused makes of a loaded store
abbrev pub done_loaded : List ℕ → BlkState → Operation → Session
done_loaded store b Load = load_session b.layout store
done_loaded store b (Append ring payload) = called store b (append_of b ring payload) (appended b ring payload)
done_loaded store b (Dump time packed reason body) = called store b (dump_of b time packed reason body)
    (dumped b reason)
done_loaded store b (CutAfter limit) = record { store = store; blk = Some (cut_after b limit) }
done_loaded store b (Erase name) = erase_named store b name
done_loaded store b other = record { store = store; blk = Some b }

abbrev pub done_off : BlkLayout → List ℕ → Operation → Session
done_off l store Load = load_session l store
done_off l store other = record { store = store; blk = None }

abbrev pub done_in : BlkLayout → List ℕ → Option BlkState → Operation → Session
done_in l store None operation = done_off l store operation
done_in l store (Some b) operation = done_loaded store b operation

abbrev pub unless_refused : Option Cause → Session → Session → Session
unless_refused None next s = next
unless_refused (Some cause) next s = s

-- a line: a refused one changes nothing
unfoldable pub session_after : BlkLayout → Session → Operation → Session
session_after l s operation = unless_refused (cause_of s.blk operation) (done_in l s.store s.blk operation) s

-- a session begins unloaded
abbrev pub begun : List ℕ → Session
begun store = record { store = store; blk = None }

-- the lines in order
unfoldable pub session_run : BlkLayout → Session → List Operation → Session
session_run l s [] = s
session_run l s (operation ∷ operations) = session_run l (session_after l s operation) operations

-- ---- calls that may meet a fault

-- How a call ends. `Done`: it is done, or refused where it has a cause. `Fails`: the store failed within its writes; it
-- has the first `kept` bytes of them, as far as the cut lets them through, and the first `tried` count as written.
-- `NoMemory`: a loading found no memory; the store is as before.
pub data Outcome : Type 0 where
  Done : Outcome
  Fails : (kept tried : ℕ) → Outcome
  NoMemory : Outcome

-- a line with its outcome
pub record Call : Type 0 where
  pub operation : Operation
  pub outcome : Outcome

abbrev pub done_call : Operation → Call
done_call operation = record { operation = operation; outcome = Done }

-- the writes of a call on a loaded store
abbrev pub call_writes : BlkState → Operation → List Write
call_writes b (Append ring payload) = append_of b ring payload
call_writes b (Dump time packed reason body) = dump_of b time packed reason body
call_writes b (Erase (Some name)) = erase_of b name
call_writes b other = []

-- the store failed within these writes: of what is loaded the cut alone is changed
abbrev pub failed_call : List ℕ → BlkState → List Write → ℕ → ℕ → Session
failed_call store b ws kept tried = record {
  store = after_writes (first_bytes (through b.cut kept) ws) store;
  blk = Some (record b { cut = spent tried b.cut });
}

-- a loading that failed leaves what was loaded before it
abbrev pub failed_in : BlkLayout → List ℕ → Option BlkState → Operation → ℕ → ℕ → Session
failed_in l store blk Load kept tried = record {
  store = after_writes (first_bytes kept (load_writes l)) store;
  blk = blk;
}
failed_in l store None operation kept tried = record { store = store; blk = None }
failed_in l store (Some b) operation kept tried = failed_call store b (call_writes b operation) kept tried

abbrev pub ended : BlkLayout → Session → Operation → Outcome → Session
ended l s operation Done = session_after l s operation
ended l s operation (Fails kept tried) = unless_refused (cause_of s.blk operation)
    (failed_in l s.store s.blk operation kept tried) s
ended l s operation NoMemory = s

unfoldable pub call_after : BlkLayout → Session → Call → Session
call_after l s call = ended l s call.operation call.outcome

-- the calls in order
unfoldable pub calls_run : BlkLayout → Session → List Call → Session
calls_run l s [] = s
calls_run l s (call ∷ calls) = calls_run l (call_after l s call) calls
