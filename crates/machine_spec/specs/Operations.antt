-- The operations of the machine, and runs of them
use Rattle.std.specs.Prelude.{ℕ, if◌then◌else◌, nat_lt, List, [], ◌∷◌, length, Option, Some, None, Result, Ok, Err}
use Rattle.zone_spec.specs.declared.Zone.{Zone}
use Rattle.zone_spec.specs.declared.ZoneName.{ZoneName}
use Rattle.zone_spec.specs.declared.Name.{Name}
use Rattle.zone_spec.specs.declared.Refusal.{Refusal}
use Rattle.zone_spec.specs.declared.Refusal.TheVariants.{Busy, OutOfImage}
use Rattle.zone_spec.specs.Listing.{is_listed}
use Rattle.zone_spec.specs.Notices.{is_in}
use Rattle.machine_spec.specs.States.{OffState, LiveState, Session, Off, Live}
use Rattle.machine_spec.specs.Off.{flipped}
use Rattle.machine_spec.specs.LiveZones.{flies}
use Rattle.machine_spec.specs.LiveCalls.{Ask, begin, make, step, finish}
use Rattle.machine_spec.specs.Erasures.{saved_logs, erased}
use Rattle.machine_spec.specs.Stop.{stopped}
use Rattle.machine_spec.specs.Boot.{booted}
use Rattle.machine_spec.specs.BootPart.{boot_parted}

-- off: a flip of a byte, a boot, a boot that is cut; live: a call begun, a call begun and finished,
-- stores of a flight, all that are left of one, the erasure of a record, a stop
pub data Operation : Type 0 where
  Flip : (place mask : ℕ) → Operation
  Boot : Operation
  BootPart : (limit : ℕ) → Operation
  Begin : (ask : Ask) → Operation
  Make : (ask : Ask) → Operation
  Step : (zone : ZoneName) (count : ℕ) → Operation
  Finish : (zone : ZoneName) → Operation
  EraseRecord : (name : Name) → Operation
  Stop : Operation

-- why an operation is refused: the state has no such operation, no record of this name is listed, or the
-- store refuses it
pub data Cause : Type 0 where
  WrongState : Cause
  NoRecord : Cause
  Refused : (why : Refusal) → Cause

-- what a live store answers
abbrev pub answered : Result LiveState Refusal → Result Session Cause
answered (Ok live) = Ok (Live live)
answered (Err why) = Err (Refused why)

-- the erasure of a listed record, where no flight stands in any of its zones
abbrev pub erases : List Zone → LiveState → Name → Result Session Cause
erases layout live name =
    if is_listed (saved_logs layout live) name then (if flies layout live (λ z. is_in name z) then Err (Refused Busy)
    else Ok (Live (erased layout live name))) else Err NoRecord

-- the state that an operation leaves, or why it is refused
abbrev pub live_operated : List Zone → LiveState → Operation → Result Session Cause
live_operated layout live (Begin ask) = answered (begin layout live ask)
live_operated layout live (Make ask) = answered (make layout live ask)
live_operated layout live (Step name count) = answered (step layout live name count)
live_operated layout live (Finish name) = answered (finish layout live name)
live_operated layout live (EraseRecord name) = erases layout live name
live_operated layout live Stop = Ok (Off (stopped layout live))
live_operated layout live other = Err WrongState

-- the same while the machine is off
abbrev pub off_operated : List Zone → OffState → Operation → Result Session Cause
off_operated layout off (Flip place mask) = if nat_lt place (length off.image) then Ok (Off (flipped off place mask))
    else Err (Refused OutOfImage)
off_operated layout off Boot = Ok (Live (booted layout off))
off_operated layout off (BootPart limit) = Ok (Off (boot_parted layout limit off))
off_operated layout off other = Err WrongState

-- the same of any state
abbrev pub operated : List Zone → Session → Operation → Result Session Cause
operated layout (Live live) operation = live_operated layout live operation
operated layout (Off off) operation = off_operated layout off operation

-- a refused operation changes nothing
abbrev pub left_by : Session → Result Session Cause → Session
left_by session (Ok next) = next
left_by session (Err cause) = session

-- why an operation was refused, if it was
abbrev pub cause_of : Result Session Cause → Option Cause
cause_of (Ok next) = None
cause_of (Err cause) = Some cause

-- the state that a run of operations leaves
unfoldable pub session_after : List Zone → Session → List Operation → Session
session_after layout session [] = session
session_after layout session (o ∷ os) = session_after layout (left_by session (operated layout session o)) os

-- the cause of each operation of a run that was refused
unfoldable pub causes : List Zone → Session → List Operation → List (Option Cause)
causes layout session [] = []
causes layout session (o ∷ os) = cause_of (operated layout session o) ∷ causes layout
    (left_by session (operated layout session o)) os
