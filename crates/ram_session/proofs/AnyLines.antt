-- Lines of the other state, and lines that are not of this store
use Rattle.std.specs.Bool.{⊤}
use Rattle.std.proofs.Common.{◌≡◌, ℕ, Bool, List, Err, refl}
use Rattle.zone_spec.specs.declared.Zone.{Zone}
use Rattle.machine_spec.specs.States.{OffState, LiveState, Off as OffOf, Live as LiveOf}
use Rattle.prz_read.specs.Saving.{SavedLogs}
use Rattle.ramoops.specs.OffSeen.{OffSeen}
use Rattle.ramoops.specs.LiveSeen.{LiveSeen}
use Rattle.grammar_spec.specs.declared.line.Line.{Line}
use Rattle.grammar_spec.specs.declared.line.Line.TheVariants.{Blank, Write, Dump, BeginWrite, BeginErase, BeginDump}
use Rattle.grammar_spec.specs.declared.line.Line.TheVariants.{Step, Finish, Stop, Flip, Boot, BootPart}
use Rattle.grammar_spec.specs.declared.line.Line.TheVariants.{List as ListLine, Extract, Erase, KDump, CutAfter, KMsg}
use Rattle.grammar_spec.specs.declared.line.Line.TheVariants.{Crash, Reserve, StoreNext}
use Rattle.zone_spec.specs.declared.Time.{Time}
use Rattle.machine_spec.specs.Sound.{IsTime}
use Rattle.grammar_spec.specs.Printed.{HasFields}
use Rattle.script_spec.specs.Scripts.{Kernel, store_line, line_done}
use Rattle.script_spec.specs.declared.Cause.{Cause}
use Rattle.script_spec.specs.declared.Cause.TheVariants.{IsOff, IsLive, NotHere}
use Rattle.ram_session.specs.Sessions.{Live, LineRefused}
use Rattle.ram_session.specs.Machines.{MachineRefused}
use Rattle.ram_session.specs.declared.machine.Machine.TheVariants.{Off as OffMachine}

-- a refusal whatever state the machine stands for
refused_off : (off : OffSeen) (line : Line) (cause : Cause)
    → ((layout : List Zone) (s : OffState) (k : Kernel) → line_done layout (OffOf s) k line ≡ Err cause)
    → MachineRefused (OffMachine off) line cause
refused_off off line cause is layout mem (OffOf s) k lies alike stands has state = is layout s k
refused_off off line cause is layout mem (LiveOf s) k lies alike stands has state = absurd stands

refused_live : (live : LiveSeen) (logs : SavedLogs) (line : Line) (cause : Cause)
    → ((layout : List Zone) (s : LiveState) → store_line layout (LiveOf s) line ≡ Err cause)
    → LineRefused (Live live logs) line cause
refused_live live logs line cause is layout mem (OffOf s) lies stands state = absurd stands
refused_live live logs line cause is layout mem (LiveOf s) lies stands state = is layout s

-- the lines that are refused off, live, and in each state
abbrev pub WaitsForBoot : Line → Type 0
WaitsForBoot (Write z b) = ⊤
WaitsForBoot (Dump t k b) = ⊤
WaitsForBoot (BeginWrite z b) = ⊤
WaitsForBoot (BeginErase z) = ⊤
WaitsForBoot (BeginDump t k b) = ⊤
WaitsForBoot (Step z n) = ⊤
WaitsForBoot (Finish z) = ⊤
WaitsForBoot Stop = ⊤
WaitsForBoot ListLine = ⊤
WaitsForBoot (Extract b) = ⊤
WaitsForBoot (Erase b) = ⊤
WaitsForBoot (KMsg b) = ⊤
WaitsForBoot (Crash r t) = ⊤
WaitsForBoot other = ⊥

abbrev pub WaitsForStop : Line → Type 0
WaitsForStop (Flip a m) = ⊤
WaitsForStop Boot = ⊤
WaitsForStop (BootPart n) = ⊤
WaitsForStop other = ⊥

abbrev pub IsElsewhere : Line → Type 0
IsElsewhere (KDump a n k r b) = ⊤
IsElsewhere (CutAfter n) = ⊤
IsElsewhere (Reserve b) = ⊤
IsElsewhere (StoreNext t n) = ⊤
IsElsewhere other = ⊥

waits_for_boot_line : (layout : List Zone) (s : OffState) (k : Kernel) (line : Line) → WaitsForBoot line
    → line_done layout (OffOf s) k line ≡ Err IsOff
unfolding line_done store_line
waits_for_boot_line layout s k (Flip a m) h = absurd h
waits_for_boot_line layout s k Boot h = absurd h
waits_for_boot_line layout s k (BootPart n) h = absurd h
waits_for_boot_line layout s k (KDump a n p r b) h = absurd h
waits_for_boot_line layout s k (CutAfter n) h = absurd h
waits_for_boot_line layout s k (Reserve b) h = absurd h
waits_for_boot_line layout s k (StoreNext t n) h = absurd h
waits_for_boot_line layout s k Blank h = absurd h
waits_for_boot_line layout s k line h = refl

waits_for_stop_line : (layout : List Zone) (s : LiveState) (line : Line) → WaitsForStop line
    → store_line layout (LiveOf s) line ≡ Err IsLive
unfolding store_line
waits_for_stop_line layout s (Flip a m) h = refl
waits_for_stop_line layout s Boot h = refl
waits_for_stop_line layout s (BootPart n) h = refl
waits_for_stop_line layout s line h = absurd h

elsewhere_off_line : (layout : List Zone) (s : OffState) (k : Kernel) (line : Line) → IsElsewhere line
    → line_done layout (OffOf s) k line ≡ Err NotHere
unfolding line_done store_line
elsewhere_off_line layout s k (KDump a n p r b) h = refl
elsewhere_off_line layout s k (CutAfter n) h = refl
elsewhere_off_line layout s k (Reserve b) h = refl
elsewhere_off_line layout s k (StoreNext t n) h = refl
elsewhere_off_line layout s k line h = absurd h

elsewhere_live_line : (layout : List Zone) (s : LiveState) (line : Line) → IsElsewhere line
    → store_line layout (LiveOf s) line ≡ Err NotHere
unfolding store_line
elsewhere_live_line layout s (KDump a n k r b) h = refl
elsewhere_live_line layout s (CutAfter n) h = refl
elsewhere_live_line layout s (Reserve b) h = refl
elsewhere_live_line layout s (StoreNext t n) h = refl
elsewhere_live_line layout s line h = absurd h

pub waits_for_boot : (off : OffSeen) (line : Line) → WaitsForBoot line → MachineRefused (OffMachine off) line IsOff
waits_for_boot off line h = refused_off off line IsOff (λ layout s k. waits_for_boot_line layout s k line h)

pub waits_for_stop : (live : LiveSeen) (logs : SavedLogs) (line : Line) → WaitsForStop line
    → LineRefused (Live live logs) line IsLive
waits_for_stop live logs line h = refused_live live logs line IsLive (λ layout s. waits_for_stop_line layout s line h)

pub elsewhere_off : (off : OffSeen) (line : Line) → IsElsewhere line → MachineRefused (OffMachine off) line NotHere
elsewhere_off off line h = refused_off off line NotHere (λ layout s k. elsewhere_off_line layout s k line h)

pub elsewhere_live : (live : LiveSeen) (logs : SavedLogs) (line : Line) → IsElsewhere line
    → LineRefused (Live live logs) line NotHere
elsewhere_live live logs line h = refused_live live logs line NotHere (λ layout s. elsewhere_live_line layout s line h)

-- a line's time can be written
pub dump_time : (t : Time) (packed : Bool) (bytes : List ℕ) → HasFields (Dump t packed bytes) → IsTime t
unfolding HasFields
dump_time t packed bytes h = h.0

pub begin_dump_time : (t : Time) (packed : Bool) (bytes : List ℕ) → HasFields (BeginDump t packed bytes) → IsTime t
unfolding HasFields
begin_dump_time t packed bytes h = h.0
