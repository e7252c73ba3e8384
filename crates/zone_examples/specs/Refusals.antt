-- Refused operations
use Rattle.std.specs.Prelude.{◌≡◌, ℕ, false, List, [], ◌∷◌, ◌++◌, replicate, slice_range, codes, map}
use Rattle.zone_spec.specs.declared.Time.{Time}
use Rattle.zone_spec.specs.declared.Name.TheVariants.{Console as ConsoleName, Pmsg as PmsgName, Ftrace as FtraceName}
use Rattle.zone_spec.specs.declared.State.TheVariants.{Unsigned, Empty, Found}
use Rattle.zone_spec.specs.declared.Verdict.TheVariants.{NothingTold, AsTold}
use Rattle.zone_spec.specs.declared.Refusal.TheVariants.{NoZone, Busy, Idle, OutOfImage}
use Rattle.machine_spec.specs.Stop.{session_image}
use Rattle.machine_spec.specs.LiveCalls.{Append, Erase, Dump}
use Rattle.machine_spec.specs.Operations.{Operation, Boot, BootPart, Make, Begin, Step, Finish, Stop, Flip, EraseRecord}
use Rattle.machine_spec.specs.Operations.{Refused, WrongState, NoRecord, causes}
use Rattle.std.specs.Prelude.{Option, Some, None}
use Rattle.machine_spec.specs.States.{Off}
use Rattle.machine_spec.specs.Off.{fresh}
use Rattle.zone_spec.specs.declared.Zone.{Zone}
use Rattle.machine_spec.specs.Operations.{Cause}
use Rattle.zone_examples.specs.Zones.{console, pmsg, dump, ftrace, small_zone, lone_console, small_console}
use Rattle.zone_examples.specs.Zones.{four_small_zones, each_kind}
use Rattle.zone_examples.specs.Scenes.{abc, signature}
use Rattle.zone_examples.specs.Shown.{Boots, boot, run, left, records}

-- the causes of a run that begins with zeros
abbrev pub refused : List Zone → ℕ → List Operation → List (Option Cause)
refused layout mem operations = causes layout (Off (fresh layout (replicate mem 0))) operations

abbrev pub WorkedRefusals : Type 0
WorkedRefusals =
    (refused lone_console 4096 (Boot ∷ Begin (Append console (0x61 ∷ [])) ∷ Begin (Append console (0x62 ∷ [])) ∷ [])
    ≡ None ∷ None ∷ Some (Refused Busy) ∷ [])
    × (refused lone_console 4096 (Boot ∷ EraseRecord PmsgName ∷ []) ≡ None ∷ Some NoRecord ∷ [])
    × (refused lone_console 4096 (Flip 4096 1 ∷ Flip 4095 1 ∷ []) ≡ Some (Refused OutOfImage) ∷ None ∷ [])
    × (refused lone_console 4096 (Make (Append console (0x61 ∷ [])) ∷ []) ≡ Some WrongState ∷ [])

-- what each state has not
abbrev pub WrongStates : Type 0
WrongStates =
    (refused small_console 256 (Begin (Erase console) ∷ Step console 1 ∷ Finish console ∷ EraseRecord ConsoleName
    ∷ Stop ∷ [])
    ≡ Some WrongState ∷ Some WrongState ∷ Some WrongState ∷ Some WrongState ∷ Some WrongState ∷ [])
    × (refused small_console 256 (Boot ∷ Boot ∷ BootPart 1 ∷ Flip 0 1 ∷ []) ≡ None ∷ Some WrongState ∷ Some WrongState
    ∷ Some WrongState ∷ [])

-- no such zone comes first, then busy or idle; dump zones take no appends
abbrev pub time_five : Operation
time_five = Begin (Dump (record { secs = 5; micros = 6 }) false (codes "x"))

abbrev pub NoSuchZone : Type 0
NoSuchZone =
    (refused small_console 256 (Boot ∷ Begin (Append pmsg abc) ∷ Begin (Erase (dump 0)) ∷ Step pmsg 0 ∷ Finish
    (ftrace 0) ∷ time_five ∷ [])
    ≡ None ∷ Some (Refused NoZone) ∷ Some (Refused NoZone) ∷ Some (Refused NoZone) ∷ Some (Refused NoZone) ∷ Some
    (Refused NoZone) ∷ [])
    × (refused four_small_zones 1024 (Boot ∷ time_five ∷ Begin (Append (dump 0) abc) ∷ [])
    ≡ None ∷ None ∷ Some (Refused NoZone) ∷ [])

-- steps want a flight, also none of them; an append of no bytes is refused in a busy zone, and else
-- leaves no flight
abbrev pub IdleAndEmpty : Type 0
IdleAndEmpty =
    (refused small_console 256 (Boot ∷ Step console 0 ∷ Finish console ∷ [])
    ≡ None ∷ Some (Refused Idle) ∷ Some (Refused Idle) ∷ [])
    × (refused small_console 256 (Boot ∷ Begin (Append console []) ∷ Step console 1 ∷ [])
    ≡ None ∷ None ∷ Some (Refused Idle) ∷ [])
    × (refused small_console 256 (Boot ∷ Begin (Append console abc) ∷ Begin (Append console []) ∷ Step console 0
    ∷ Step console 99 ∷ Step console 0 ∷ [])
    ≡ None ∷ None ∷ Some (Refused Busy) ∷ None ∷ None ∷ Some (Refused Idle) ∷ [])

-- the records in order, by their names: pmsg before ftrace
abbrev pub each_written : List Operation
each_written =
    Boot ∷ Make (Append pmsg abc) ∷ Make (Append (ftrace 0) (replicate 24 0)) ∷ Make (Append console abc)
    ∷ Make (Dump (record { secs = 5; micros = 6 }) false (codes "x")) ∷ Stop ∷ Boot ∷ []

abbrev pub RecordsInOrder : Type 0
RecordsInOrder =
    map (λ (r : List ℕ × ℕ × Option Time). r.0) (records each_kind (left each_kind (replicate 1024 0) each_written))
    ≡ codes "dmesg-ramoops-0" ∷ codes "console-ramoops-0" ∷ codes "pmsg-ramoops-0" ∷ codes "ftrace-ramoops-0" ∷ []

-- two ftrace zones of 256 bytes; one entry is written to the first
abbrev pub two_small_ftrace : List Zone
two_small_ftrace = small_zone (ftrace 0) 0 ∷ small_zone (ftrace 1) 256 ∷ []

abbrev pub one_written : List Operation
one_written = Boot ∷ Make (Append (ftrace 0) (replicate 24 0)) ∷ Stop ∷ Boot ∷ []

-- the erasure of a record asks of its own zones alone, and of all of them before its first store
abbrev pub EraseRecordIsBusy : Type 0
EraseRecordIsBusy =
    (refused each_kind 1024 (each_written ++ Begin (Append pmsg abc) ∷ EraseRecord ConsoleName ∷ EraseRecord PmsgName
    ∷ [])
    ≡ None ∷ None ∷ None ∷ None ∷ None ∷ None ∷ None ∷ None ∷ None ∷ Some (Refused Busy) ∷ [])
    × (slice_range (session_image (left two_small_ftrace (replicate 512 0)
    (one_written ++ Begin (Append (ftrace 1) abc) ∷ EraseRecord FtraceName ∷ []))) 0 12
    ≡ signature ++ 24 ∷ 0 ∷ 0 ∷ 0 ∷ 24 ∷ 0 ∷ 0 ∷ 0 ∷ [])

-- the erasure of the ftrace record erases and forgets all ftrace zones, also one that was not found
abbrev pub EraseFtraceErasesAll : Type 0
EraseFtraceErasesAll =
    let erased = one_written ++ Make (Append (ftrace 1) (replicate 24 1)) ∷ EraseRecord FtraceName ∷ [] in
    (records two_small_ftrace (left two_small_ftrace (replicate 512 0) erased) ≡ [])
    × (slice_range (session_image (left two_small_ftrace (replicate 512 0) erased)) 0 12 ≡ signature ++ replicate 8 0)
    × (slice_range (session_image (left two_small_ftrace (replicate 512 0) erased)) 256 268
    ≡ signature ++ replicate 8 0)
    × (run two_small_ftrace (replicate 512 0) (erased ++ Stop ∷ Boot ∷ [])
    ≡ Boots (boot (ftrace 0) Unsigned 0 0 0 0 NothingTold ∷ boot (ftrace 1) Unsigned 0 0 0 0 NothingTold ∷ [])
    ∷ Boots (boot (ftrace 0) Found 24 24 0 0 AsTold ∷ boot (ftrace 1) Empty 0 0 0 0 AsTold ∷ [])
    ∷ Boots (boot (ftrace 0) Empty 0 0 0 0 AsTold ∷ boot (ftrace 1) Empty 0 0 0 0 AsTold ∷ [])
    ∷ [])
