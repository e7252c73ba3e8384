-- A script's store, and the states of a session that it stands for
use Rattle.std.specs.Prelude.{◌≡◌, ⊤, ℕ, List, Result, Ok, Err}
use Rattle.zone_spec.specs.declared.Zone.{Zone}
use Rattle.zone_spec.specs.Layouts.{IsLayout}
use Rattle.machine_spec.specs.States.{Session, Off as OffOf, Live as LiveOf}
use Rattle.machine_spec.specs.Sound.{IsState}
use Rattle.machine_spec.specs.Erasures.{saved_logs}
use Rattle.prz_read.specs.Saving.{saved}
use Rattle.prz_read.specs.Saving.{SavedLogs}
use Rattle.ramoops.specs.OffSeen.{OffSeen, StandsOff}
use Rattle.ramoops.specs.LiveSeen.{LiveSeen, StandsLive}
use Rattle.grammar_spec.specs.Fields.{Text}
use Rattle.grammar_spec.specs.declared.line.Line.{Line}
use Rattle.grammar_spec.specs.declared.line.Line.TheVariants.{Write, Dump, BeginWrite, BeginErase, BeginDump, Step}
use Rattle.grammar_spec.specs.declared.line.Line.TheVariants.{Finish, KMsg, Crash, Boot, Stop}
use Rattle.script_spec.specs.Scripts.{store_line}
use Rattle.script_spec.specs.Playing.{TakesMemory}
use Rattle.script_spec.specs.declared.Cause.{Cause}
use Rattle.ram_session.specs.declared.machine.LineError.{LineError}
use Rattle.ram_session.specs.declared.machine.LineError.TheVariants.{Memory, Refused}

-- a store that is off, or live beside the logs that its last boot saved
pub data StoreSeen : Type 0 where
  Off : (off : OffSeen) → StoreSeen
  Live : (live : LiveSeen) (logs : SavedLogs) → StoreSeen

-- it stands for a state of a session; the saved logs beside a live store are those of the state
abbrev pub Stands : List Zone → ℕ → StoreSeen → Session → Type 0
Stands layout mem (Off off) (OffOf s) = StandsOff layout mem off s
Stands layout mem (Off off) (LiveOf s) = ⊥
Stands layout mem (Live live logs) (LiveOf s) = StandsLive layout mem live s × (saved logs ≡ saved_logs layout s)
Stands layout mem (Live live logs) (OffOf s) = ⊥

-- a line of the store was done, and the store stands for the state that it leaves
pub record Leaves (layout : List Zone) (mem : ℕ) (s : Session) (line : Line) (store : StoreSeen)
    (text : Text) : Type 0 where
  pub next : Session
  pub done : store_line layout s line ≡ Ok (record { session = next; text = text })
  pub stands : Stands layout mem store next

-- it was so of every sound state for which the store stood
abbrev pub LineDone : StoreSeen → Line → StoreSeen → Text → Type 0
LineDone old line new text = (layout : List Zone) (mem : ℕ) (s : Session) → IsLayout layout mem
    → Stands layout mem old s → IsState layout mem s → Leaves layout mem s line new text

-- a line was refused
abbrev pub LineRefused : StoreSeen → Line → Cause → Type 0
LineRefused old line cause = (layout : List Zone) (mem : ℕ) (s : Session) → IsLayout layout mem
    → Stands layout mem old s → IsState layout mem s → store_line layout s line ≡ Err cause

-- what is wanted is not refused
pub record IsWanted {T : Type 0} (wanted : Result T Cause) : Type 0 where
  pub wants : T
  pub is : wanted ≡ Ok wants

-- a line takes memory, and is not refused
pub record LineTakes (old : StoreSeen) (line : Line) : Type 0 where
  pub takes : TakesMemory line
  pub wanted : (layout : List Zone) (mem : ℕ) (s : Session) → IsLayout layout mem → Stands layout mem old s
      → IsState layout mem s → IsWanted (store_line layout s line)

-- why a line was not done: memory was refused only to one that takes it, and that is not refused itself
abbrev pub LineFails : StoreSeen → Line → LineError → Type 0
LineFails old line Memory = LineTakes old line
LineFails old line (Refused cause) = LineRefused old line cause

-- a line of a call
abbrev pub IsCall : Line → Type 0
IsCall (Write zone bytes) = ⊤
IsCall (Dump time packed bytes) = ⊤
IsCall (BeginWrite zone bytes) = ⊤
IsCall (BeginErase zone) = ⊤
IsCall (BeginDump time packed bytes) = ⊤
IsCall (Step zone k) = ⊤
IsCall (Finish zone) = ⊤
IsCall other = ⊥

-- a line that is none of the kernel's, and neither begins nor ends it
abbrev pub KeepsKernel : Line → Type 0
KeepsKernel (KMsg text) = ⊥
KeepsKernel (Crash reason time) = ⊥
KeepsKernel Boot = ⊥
KeepsKernel Stop = ⊥
KeepsKernel other = ⊤
