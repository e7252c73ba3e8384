-- Lines that boot, stop, list, or do nothing
use Rattle.std.proofs.Common.{◌≡◌, ℕ, List, [], Result, Ok, refl, ◌∙◌}
use Rattle.zone_spec.specs.declared.Zone.{Zone}
use Rattle.zone_spec.specs.Layouts.{IsLayout}
use Rattle.machine_spec.specs.States.{OffState, LiveState, Session, Off as OffOf, Live as LiveOf}
use Rattle.machine_spec.specs.Boot.{booted}
use Rattle.machine_spec.specs.Sound.{IsState}
use Rattle.machine_spec.specs.Stop.{stopped}
use Rattle.machine_spec.specs.Report.{ZoneReport, report}
use Rattle.machine_spec.specs.Erasures.{saved_logs}
use Rattle.prz_read.specs.Saving.{SavedLogs, saved}
use Rattle.ramoops.specs.OffSeen.{OffSeen, StandsOff}
use Rattle.ramoops.specs.LiveSeen.{LiveSeen, StandsLive}
use Rattle.ramoops.specs.Booted.{Booted, BootedInPart}
use Rattle.machine_spec.specs.BootPart.{boot_parted, boot_made}
use Rattle.grammar_spec.specs.declared.line.Line.TheVariants.{Blank, Boot, BootPart, Stop, List as ListLine}
use Rattle.grammar_spec.specs.declared.line.Line.{Line}
use Rattle.script_spec.specs.Texts.{boot_text, part_text, listing}
use Rattle.script_spec.specs.Scripts.{store_line}
use Rattle.script_spec.specs.Playing.{TakesMemory}
use Rattle.script_spec.specs.declared.Cause.{Cause}
use Rattle.ram_session.specs.Sessions.{StoreSeen, Off, Live, Stands, LineDone, IsWanted, LineTakes}

-- ---- a line that takes memory and is not refused

pub is_wanted : {T : Type 0} (wanted : Result T Cause) (wants : T) → wanted ≡ Ok wants → IsWanted wanted
is_wanted wanted wants e = record { wants = wants; is = e }

off_takes : (old : OffSeen) (line : Line) → TakesMemory line
    → ((layout : List Zone) (s : OffState) → IsWanted (store_line layout (OffOf s) line)) → LineTakes (Off old) line
off_takes old line takes is = record { takes = takes; wanted = by }
  where
    by : (layout : List Zone) (mem : ℕ) (s : Session) → IsLayout layout mem → Stands layout mem (Off old) s
        → IsState layout mem s → IsWanted (store_line layout s line)
    by layout mem (OffOf s) lies stands state = is layout s
    by layout mem (LiveOf s) lies stands state = absurd stands

pub live_takes : (live : LiveSeen) (logs : SavedLogs) (line : Line) → TakesMemory line
    → ((layout : List Zone) (s : LiveState) → saved logs ≡ saved_logs layout s
    → IsWanted (store_line layout (LiveOf s) line)) → LineTakes (Live live logs) line
live_takes live logs line takes is = record { takes = takes; wanted = by }
  where
    by : (layout : List Zone) (mem : ℕ) (s : Session) → IsLayout layout mem → Stands layout mem (Live live logs) s
        → IsState layout mem s → IsWanted (store_line layout s line)
    by layout mem (OffOf s) lies stands state = absurd stands
    by layout mem (LiveOf s) lies stands state = is layout s stands.1

-- ---- the lines

boot_line : (layout : List Zone) (s : OffState) → store_line layout (OffOf s) Boot
    ≡ Ok (record {
      session = LiveOf (booted layout s);
      text = boot_text (saved_logs layout (booted layout s))
          (report layout s);
    })
unfolding store_line
boot_line layout s = refl

pub boot_takes : (old : OffSeen) → LineTakes (Off old) Boot
boot_takes old = off_takes old Boot tt (λ layout s. is_wanted _ _ (boot_line layout s))

pub boot_done : (old : OffSeen) (live : LiveSeen) (logs : SavedLogs) (reports : List ZoneReport) (text : List ℕ)
    → ((layout : List Zone) (mem : ℕ) (s : OffState) → StandsOff layout mem old s
    → Booted layout mem s live (saved logs) reports) → text ≡ boot_text (saved logs) reports
    → LineDone (Off old) Boot (Live live logs) text
boot_done old live logs reports text boots same layout mem (OffOf s) lies stands state =
    let b = boots layout mem s stands in
    let told : text ≡ boot_text (saved_logs layout (booted layout s)) (report layout s) =
    same ∙ rw (b.logs, b.reports) refl in
    record { next = LiveOf (booted layout s); done = rw told (boot_line layout s); stands = (b.live, b.logs) }
boot_done old live logs reports text boots same layout mem (LiveOf s) lies stands state = absurd stands

stop_line : (layout : List Zone) (s : LiveState) → store_line layout (LiveOf s) Stop
    ≡ Ok (record { session = OffOf (stopped layout s); text = [] })
unfolding store_line
stop_line layout s = refl

pub stop_done : (old : LiveSeen) (logs : SavedLogs) (new : OffSeen)
    → ((layout : List Zone) (mem : ℕ) (s : LiveState) → StandsLive layout mem old s
    → StandsOff layout mem new (stopped layout s)) → LineDone (Live old logs) Stop (Off new) []
stop_done old logs new stops layout mem (OffOf s) lies stands state = absurd stands
stop_done old logs new stops layout mem (LiveOf s) lies stands state =
    record { next = OffOf (stopped layout s); done = stop_line layout s; stands = stops layout mem s stands.0 }

list_line : (layout : List Zone) (s : LiveState) → store_line layout (LiveOf s) ListLine
    ≡ Ok (record { session = LiveOf s; text = listing (saved_logs layout s) })
unfolding store_line
list_line layout s = refl

pub list_takes : (live : LiveSeen) (logs : SavedLogs) → LineTakes (Live live logs) ListLine
list_takes live logs = live_takes live logs ListLine tt (λ layout s same. is_wanted _ _ (list_line layout s))

pub list_done : (live : LiveSeen) (logs : SavedLogs) (text : List ℕ) → text ≡ listing (saved logs)
    → LineDone (Live live logs) ListLine (Live live logs) text
list_done live logs text same layout mem (OffOf s) lies stands state = absurd stands
list_done live logs text same layout mem (LiveOf s) lies stands state =
    let told : text ≡ listing (saved_logs layout s) = same ∙ rw stands.1 refl in
    record { next = LiveOf s; done = rw told (list_line layout s); stands = stands }

blank_line : (layout : List Zone) (s : Session) → store_line layout s Blank ≡ Ok (record { session = s; text = [] })
unfolding store_line
blank_line layout s = refl

pub blank_done : (store : StoreSeen) → LineDone store Blank store []
blank_done store layout mem s lies stands state = record { next = s; done = blank_line layout s; stands = stands }

part_line : (layout : List Zone) (s : OffState) (limit : ℕ)
    → store_line layout (OffOf s) (BootPart limit) ≡ Ok (record {
      session = OffOf (boot_parted layout limit s);
      text = part_text (boot_made layout limit s);
    })
unfolding store_line
part_line layout s limit = refl

pub part_takes : (old : OffSeen) (limit : ℕ) → LineTakes (Off old) (BootPart limit)
part_takes old limit = off_takes old (BootPart limit) tt (λ layout s. is_wanted _ _ (part_line layout s limit))

pub part_done : (old new : OffSeen) (limit given made : ℕ) (text : List ℕ) → given ≡ limit
    → ((layout : List Zone) (mem : ℕ) (s : OffState) → StandsOff layout mem old s
    → BootedInPart layout mem s given new made) → text ≡ part_text made
    → LineDone (Off old) (BootPart limit) (Off new) text
part_done old new limit given made text same parts put layout mem (OffOf s) lies stands state =
    let b : BootedInPart layout mem s limit new made = rw same at (parts layout mem s stands) in
    let told : text ≡ part_text (boot_made layout limit s) = put ∙ rw b.count refl in
    record { next = OffOf (boot_parted layout limit s); done = rw told (part_line layout s limit); stands = b.off }
part_done old new limit given made text same parts put layout mem (LiveOf s) lies stands state = absurd stands
