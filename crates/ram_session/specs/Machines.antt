-- A script's machine: its store, and the kernel of a live one
use Rattle.std.specs.Prelude.{◌≡◌, ⊤, ℕ, List, Ok, Err}
use Rattle.zone_spec.specs.declared.Zone.{Zone}
use Rattle.zone_spec.specs.Layouts.{IsLayout}
use Rattle.machine_spec.specs.States.{Session}
use Rattle.machine_spec.specs.Sound.{IsState}
use Rattle.grammar_spec.specs.Fields.{Text}
use Rattle.grammar_spec.specs.declared.line.Line.{Line}
use Rattle.script_spec.specs.Scripts.{Kernel as KernelOf, new_kernel, line_done}
use Rattle.script_spec.specs.Playing.{TakesMemory}
use Rattle.script_spec.specs.declared.Cause.{Cause}
use Rattle.ram_session.specs.Kernels.{StandsForKernel, DumpsAlike}
use Rattle.ram_session.specs.Sessions.{StoreSeen, Off as OffStore, Live as LiveStore, Stands, IsWanted}
use Rattle.ram_session.specs.declared.machine.Machine.{Machine}
use Rattle.ram_session.specs.declared.machine.Machine.TheVariants.{Off, Live}
use Rattle.ram_session.specs.declared.machine.LineError.{LineError}
use Rattle.ram_session.specs.declared.machine.LineError.TheVariants.{Memory, Refused}

abbrev pub store_of : Machine → StoreSeen
store_of (Off off) = OffStore off
store_of (Live live logs kernel) = LiveStore live logs

abbrev pub IsLive : Machine → Type 0
IsLive (Off off) = ⊥
IsLive (Live live logs kernel) = ⊤

-- the machine's kernel stands for this one, which is a new one while it is off
abbrev pub HasKernel : Machine → KernelOf → Type 0
HasKernel (Off off) kernel = kernel ≡ new_kernel
HasKernel (Live live logs seen) kernel = StandsForKernel seen kernel

-- how many crashes a machine counted
abbrev pub crashes_of : Machine → ℕ
crashes_of (Off off) = 0
crashes_of (Live live logs seen) = seen.crashes

-- a line was done, and the machine stands for what it leaves
pub record MachineLeaves (layout : List Zone) (mem : ℕ) (s : Session) (k : KernelOf) (line : Line) (machine : Machine)
    (text : Text) : Type 0 where
  pub next : Session
  pub kernel : KernelOf
  pub done : line_done layout s k line ≡ Ok (record { session = next; kernel = kernel; text = text })
  pub stands : Stands layout mem (store_of machine) next
  pub has : HasKernel machine kernel

-- it was so of every sound state for which the machine stood
abbrev pub MachineDone : Machine → Line → Machine → Text → Type 0
MachineDone old line new text = (layout : List Zone) (mem : ℕ) (s : Session) (k : KernelOf) → IsLayout layout mem
    → DumpsAlike layout → Stands layout mem (store_of old) s → HasKernel old k → IsState layout mem s
    → MachineLeaves layout mem s k line new text

-- a line was refused
abbrev pub MachineRefused : Machine → Line → Cause → Type 0
MachineRefused old line cause = (layout : List Zone) (mem : ℕ) (s : Session) (k : KernelOf) → IsLayout layout mem
    → DumpsAlike layout → Stands layout mem (store_of old) s → HasKernel old k → IsState layout mem s
    → line_done layout s k line ≡ Err cause

-- a line takes memory, and is not refused
pub record MachineTakes (old : Machine) (line : Line) : Type 0 where
  pub takes : TakesMemory line
  pub wanted : (layout : List Zone) (mem : ℕ) (s : Session) (k : KernelOf) → IsLayout layout mem → DumpsAlike layout
      → Stands layout mem (store_of old) s → HasKernel old k → IsState layout mem s
      → IsWanted (line_done layout s k line)

-- why a line was not done
abbrev pub MachineFails : Machine → Line → LineError → Type 0
MachineFails old line Memory = MachineTakes old line
MachineFails old line (Refused cause) = MachineRefused old line cause
