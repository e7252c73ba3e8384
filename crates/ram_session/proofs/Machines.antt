-- Lines of the store as lines of a machine
use Rattle.std.proofs.Common.{◌≡◌, ◌≢◌, ℕ, List, [], Result, refl, ap, ◌∙◌}
use Rattle.zone_spec.specs.declared.Zone.{Zone}
use Rattle.zone_spec.specs.declared.Time.{Time}
use Rattle.machine_spec.specs.States.{Session, Off as OffOf, Live as LiveOf}
use Rattle.prz_read.specs.Saving.{SavedLogs}
use Rattle.ramoops.specs.OffSeen.{OffSeen}
use Rattle.ramoops.specs.LiveSeen.{LiveSeen}
use Rattle.grammar_spec.specs.declared.line.Line.{Line}
use Rattle.grammar_spec.specs.declared.line.Line.TheVariants.{Stop, Boot, KMsg, Crash}
use Rattle.script_spec.specs.Scripts.{StoreDone, Done, Kernel as KernelOf, new_kernel, beside, store_line, line_done}
use Rattle.script_spec.specs.declared.Cause.{Cause}
use Rattle.script_spec.specs.declared.Cause.TheVariants.{IsLive}
use Rattle.ram_session.specs.Kernels.{StandsForKernel}
use Rattle.ram_session.specs.Sessions.{Off as OffStore, Live as LiveStore, LineDone, LineRefused, LineFails}
use Rattle.ram_session.specs.Sessions.{KeepsKernel, IsWanted, LineTakes}
use Rattle.ram_session.specs.Machines.{MachineDone, MachineRefused, MachineFails, MachineTakes}
use Rattle.ram_session.proofs.StateLines.{boot_takes}
use Rattle.ram_session.specs.declared.kernel.Kernel.{Kernel}
use Rattle.ram_session.specs.declared.machine.Machine.TheVariants.{Off, Live}
use Rattle.ram_session.specs.declared.machine.LineError.{LineError}
use Rattle.ram_session.specs.declared.machine.LineError.TheVariants.{Memory, Refused}

kept : (layout : List Zone) (s : Session) (k : KernelOf) (line : Line) → KeepsKernel line
    → line_done layout s k line ≡ beside k (store_line layout s line)
unfolding line_done
kept layout s k Stop h = absurd h
kept layout s k Boot h = absurd h
kept layout s k (KMsg b) h = absurd h
kept layout s k (Crash r t) h = absurd h
kept layout s k line h = refl

-- a line that is none of the four
pub keeps_unless : (line : Line) → line ≢ Boot → line ≢ Stop → ((b : List ℕ) → line ≢ KMsg b)
    → ((r : ℕ) (t : Time) → line ≢ Crash r t) → KeepsKernel line
keeps_unless Stop p q r t = absurd (q refl)
keeps_unless Boot p q r t = absurd (p refl)
keeps_unless (KMsg b) p q r t = absurd (r b refl)
keeps_unless (Crash u v) p q r t = absurd (t u v refl)
keeps_unless line p q r t = tt

-- a line is not refused if that of the store is not
pub wanted_beside : (kernel : KernelOf) (r : Result Done Cause) (q : Result StoreDone Cause) → r ≡ beside kernel q
    → IsWanted q → IsWanted r
wanted_beside kernel r q e h = record {
  wants = record { session = h.wants.session; kernel = kernel; text = h.wants.text };
  is = e ∙ ap (beside kernel) h.is;
}

-- ---- off

pub off_done : (old new : OffSeen) (line : Line) (text : List ℕ) → KeepsKernel line
    → LineDone (OffStore old) line (OffStore new) text → MachineDone (Off old) line (Off new) text
off_done old new line text keeps done layout mem s k lies alike stands has state =
    let d = done layout mem s lies stands state in
    record {
      next = d.next;
      kernel = k;
      done = kept layout s k line keeps ∙ ap (beside k) d.done;
      stands = d.stands;
      has = has;
    }

pub off_refused : (old : OffSeen) (line : Line) (cause : Cause) → KeepsKernel line
    → LineRefused (OffStore old) line cause → MachineRefused (Off old) line cause
off_refused old line cause keeps fails layout mem s k lies alike stands has state =
    kept layout s k line keeps ∙ ap (beside k) (fails layout mem s lies stands state)

pub off_fails : (old : OffSeen) (line : Line) (e : LineError) → KeepsKernel line → LineFails (OffStore old) line e
    → MachineFails (Off old) line e
off_fails old line Memory keeps fails = record {
  takes = fails.takes;
  wanted = λ layout mem s k lies alike stands has state.
      wanted_beside k (line_done layout s k line) (store_line layout s line) (kept layout s k line keeps)
      (fails.wanted layout mem s lies stands state);
}
off_fails old line (Refused cause) keeps fails = off_refused old line cause keeps fails

boot_is : (layout : List Zone) (s : Session) (k : KernelOf)
    → line_done layout s k Boot ≡ beside new_kernel (store_line layout s Boot)
unfolding line_done
boot_is layout s k = refl

pub boot_done : (old : OffSeen) (live : LiveSeen) (logs : SavedLogs) (kernel : Kernel) (text : List ℕ)
    → LineDone (OffStore old) Boot (LiveStore live logs) text → StandsForKernel kernel new_kernel
    → MachineDone (Off old) Boot (Live live logs kernel) text
boot_done old live logs kernel text done new layout mem s k lies alike stands has state =
    let d = done layout mem s lies stands state in
    record {
      next = d.next;
      kernel = new_kernel;
      done = boot_is layout s k ∙ ap (beside new_kernel) d.done;
      stands = d.stands;
      has = new;
    }

pub boot_fails : (old : OffSeen) (e : LineError) → LineFails (OffStore old) Boot e → MachineFails (Off old) Boot e
boot_fails old Memory fails = record {
  takes = tt;
  wanted = λ layout mem s k lies alike stands has state.
      wanted_beside new_kernel (line_done layout s k Boot) (store_line layout s Boot) (boot_is layout s k)
      (fails.wanted layout mem s lies stands state);
}
boot_fails old (Refused cause) fails = λ layout mem s k lies alike stands has state.
    boot_is layout s k ∙ ap (beside new_kernel) (fails layout mem s lies stands state)

-- memory for its kernel
pub kernel_takes : (old : OffSeen) → MachineTakes (Off old) Boot
kernel_takes old = boot_fails old Memory (boot_takes old)

-- ---- live

pub live_done : (old new : LiveSeen) (logs logs' : SavedLogs) (kernel : Kernel) (line : Line) (text : List ℕ)
    → KeepsKernel line → LineDone (LiveStore old logs) line (LiveStore new logs') text
    → MachineDone (Live old logs kernel) line (Live new logs' kernel) text
live_done old new logs logs' kernel line text keeps done layout mem s k lies alike stands has state =
    let d = done layout mem s lies stands state in
    record {
      next = d.next;
      kernel = k;
      done = kept layout s k line keeps ∙ ap (beside k) d.done;
      stands = d.stands;
      has = has;
    }

pub live_fails : (old : LiveSeen) (logs : SavedLogs) (kernel : Kernel) (line : Line) (e : LineError)
    → KeepsKernel line → LineFails (LiveStore old logs) line e → MachineFails (Live old logs kernel) line e
live_fails old logs kernel line Memory keeps fails = record {
  takes = fails.takes;
  wanted = λ layout mem s k lies alike stands has state.
      wanted_beside k (line_done layout s k line) (store_line layout s line) (kept layout s k line keeps)
      (fails.wanted layout mem s lies stands state);
}
live_fails old logs kernel line (Refused cause) keeps fails = λ layout mem s k lies alike stands has state.
    kept layout s k line keeps ∙ ap (beside k) (fails layout mem s lies stands state)

stop_is : (layout : List Zone) (s : Session) (k : KernelOf)
    → line_done layout s k Stop ≡ beside new_kernel (store_line layout s Stop)
unfolding line_done
stop_is layout s k = refl

pub stop_done : (old : LiveSeen) (logs : SavedLogs) (kernel : Kernel) (off : OffSeen)
    → LineDone (LiveStore old logs) Stop (OffStore off) [] → MachineDone (Live old logs kernel) Stop (Off off) []
stop_done old logs kernel off done layout mem s k lies alike stands has state =
    let d = done layout mem s lies stands state in
    record {
      next = d.next;
      kernel = new_kernel;
      done = stop_is layout s k ∙ ap (beside new_kernel) d.done;
      stands = d.stands;
      has = refl;
    }

pub booted_refused : (old : LiveSeen) (logs : SavedLogs) (kernel : Kernel)
    → MachineRefused (Live old logs kernel) Boot IsLive
unfolding store_line
booted_refused old logs kernel layout mem (OffOf s) k lies alike stands has state = absurd stands
booted_refused old logs kernel layout mem (LiveOf s) k lies alike stands has state = boot_is layout (LiveOf s) k
