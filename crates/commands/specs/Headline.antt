-- What every boot of a run's script reads, reports and puts, and what one lists after a move
use Rattle.std.specs.Prelude.{◌≡◌, ⊤, ℕ, ◌≤◌, List, [], ◌∷◌, ◌++◌, length, take, slice_get, Option, Some, None, Result}
use Rattle.std.specs.Prelude.{Ok, Err}
use Rattle.std.specs.Io.KnownBytes.{Appends}
use Rattle.zone_spec.specs.declared.Zone.{Zone}
use Rattle.zone_spec.specs.declared.Time.{Time}
use Rattle.zone_spec.specs.Reading.{zone_reading}
use Rattle.zone_spec.specs.Records.{Saved}
use Rattle.machine_spec.specs.Zones.{zone_bytes}
use Rattle.machine_spec.specs.States.{OffZone, OffState, LiveState, Off, Live}
use Rattle.machine_spec.specs.LiveZones.{Target}
use Rattle.machine_spec.specs.Report.{ZoneReport, zone_report}
use Rattle.machine_spec.specs.Headline.{EachOffZone}
use Rattle.machine_laws.specs.ZoneReads.{ReadsZone}
use Rattle.history_laws.specs.Headline.{ReadsWritten}
use Rattle.grammar_spec.specs.Fields.{Text}
use Rattle.grammar_spec.specs.Lines.{script_of}
use Rattle.grammar_spec.specs.declared.line.Line.{Line}
use Rattle.grammar_spec.specs.declared.line.Line.TheVariants.{Boot, Crash}
use Rattle.script_spec.specs.Texts.{boot_text, front}
use Rattle.script_spec.specs.Scripts.{ran, dump_target, crash_body}
use Rattle.script_laws.specs.RamScripts.{script_written, ScriptReadsWritten}
use Rattle.crash_laws.specs.Lines.{AllSpare}
use Rattle.crash_laws.specs.Listings.{Lists, crash_record}
use Rattle.command_spec.specs.Commands.{Run, SharedRun, RamPlan, Plan, OfRam, OfBlk, OfMove, after_boot, mem_of}
use Rattle.script_spec.specs.SharedScripts.{zone_to_share}
use Rattle.script_laws.specs.SharedScripts.{ReadsShared}
use Rattle.machine_spec.specs.Stop.{stopped}
use Rattle.outside.specs.Outside.{Writes}
use Rattle.command_spec.specs.Answers.{Outside, IfHolds, IfTold}
use Rattle.command_spec.specs.declared.Stop.{Stop}
use Rattle.commands.specs.Moves.{Moves}

-- after each line of a script, if the machine is then off, the next boot reads of each zone what it must: the headline,
-- and all else that is said of a boot
abbrev pub BootsRead : List Zone → List ℕ → List Line → Type 0
BootsRead layout image lines = (k : ℕ) (off : OffState)
    → (ran layout image (take k lines)).session ≡ Off off → EachOffZone layout off ReadsZone

-- a text is that of a boot after these lines: of one reading and one report for each zone, which are the zone's; that
-- reading and report are as they must be, and the reading is of what the lines wrote to the zone since its erasure
pub record ShowsBoot (layout : List Zone) (image : List ℕ) (before : List Line) (off : OffState)
    (text : Text) : Type 0 where
  pub logs : List Saved
  pub reports : List ZoneReport
  pub is : text ≡ boot_text logs reports
  pub counts : (length logs ≡ length layout) × (length reports ≡ length layout)
  pub zones : (i : ℕ) (z : Zone) (zone : OffZone) → slice_get layout i ≡ Some z → slice_get off.zones i ≡ Some zone
      → let now = zone_bytes z off.image in
      (slice_get logs i ≡ Some (z, Some (zone_reading z now)))
      × (slice_get reports i ≡ Some (zone_report z zone now)) × ReadsZone z zone now
      × ((bytes : List ℕ) → script_written layout image before i z ≡ Some bytes
      → ReadsWritten z zone.cut zone.stop now bytes)

-- after the texts of the k lines before it, a line `boot` put this text
pub record PutsBoot (layout : List Zone) (image : List ℕ) (lines : List Line) (off : OffState) (k : ℕ)
    (old new : Option (List ℕ)) : Type 0 where
  pub text : Text
  pub shows : ShowsBoot layout image (take k lines) off text
  pub rest : Text
  pub put : Appends old new (front (ran layout image lines).texts k ++ text ++ rest)

-- so did each
abbrev pub BootsShown : List Zone → List ℕ → List Line → Option (List ℕ) → Option (List ℕ) → Type 0
BootsShown layout image lines old new = (k : ℕ) (off : OffState) → slice_get lines k ≡ Some Boot
    → (ran layout image (take k lines)).session ≡ Off off
    → PutsBoot layout image lines off k old new

-- the lines of a script that were done: all, or those before the one that was refused
abbrev pub done_lines : List Zone → List ℕ → List Line → List Line
done_lines layout image lines = take (length (ran layout image lines).texts) lines

-- a crash, lines that leave its zone alone, and a boot stand at the front of a script: if none of them is refused, the
-- boot lists the crash with its whole body
abbrev pub CrashesListed : List Zone → List ℕ → List Line → Type 0
CrashesListed layout image lines =
    (before between rest : List Line) (reason : ℕ) (time : Time) (live : LiveState) (t : Target)
    → lines ≡ before ++ Crash reason time ∷ [] ++ between ++ Boot ∷ [] ++ rest
    → (ran layout image before).session ≡ Live live → dump_target layout live ≡ Some t
    → AllSpare layout image t.zone (before ++ Crash reason time ∷ []) between
    → (ran layout image (before ++ Crash reason time ∷ [] ++ between ++ Boot ∷ [])).refused ≡ None
    → Lists layout (ran layout image (before ++ Crash reason time ∷ [] ++ between ++ Boot ∷ [])).session
    (crash_record t.zone time (crash_body layout live (ran layout image before).kernel reason time))

-- of the script on the image, if both are told and good: what its boots read, also by what the lines before them wrote;
-- what they list of its crashes; and what they put, on status 0 all of them, on status 10 those before the refused line
pub record ScriptReads (layout : List Zone) (image : List ℕ) (lines : List Line) (a b : Outside)
    (status : ℕ) : Type 0 where
  pub read : BootsRead layout image lines
  pub written : (k : ℕ) → ScriptReadsWritten layout image (take k lines)
  pub crashes : CrashesListed layout image lines
  pub shown : status ≡ 0 → BootsShown layout image lines a.given b.given
  pub shown_before : status ≡ 10 → BootsShown layout image (done_lines layout image lines) a.given b.given

-- a script was done on the shared zone of an image that was booted and stopped before: what was written at the front
-- of the store, and what a reader finds in it
pub record SharedReads (layout : List Zone) (image : List ℕ) (lines : List Line) (a b : Outside) : Type 0 where
  pub zone : Zone
  pub named : zone_to_share layout ≡ Some zone
  pub left : List ℕ
  pub written : Writes a.holds b.holds 0 left
  pub reads : ReadsShared zone (stopped layout (after_boot layout image)).image lines left

-- of a script on an image; of one on a shared zone that is done; and of a move that is done, what a boot then lists and
-- reads
abbrev pub RamReads : RamPlan → Outside → Outside → ℕ → Type 0
RamReads plan a b status =
    (plan.command ≡ Run → IfTold a
    (λ bytes script. (lines : List Line) → mem_of plan ≤ length bytes → script_of script ≡ Ok lines
    → ScriptReads plan.zones (take (mem_of plan) bytes) lines a b status))
    × (plan.command ≡ SharedRun → status ≡ 0 → IfTold a
    (λ bytes script. (lines : List Line) → mem_of plan ≤ length bytes → script_of script ≡ Ok lines
    → SharedReads plan.zones (take (mem_of plan) bytes) lines a b))

abbrev pub RunReads : Result Plan Stop → Outside → Outside → ℕ → Type 0
RunReads (Ok (OfRam plan)) a b status = RamReads plan a b status
RunReads (Ok (OfBlk layout)) a b status = ⊤
RunReads (Ok (OfMove plan)) a b status = status ≡ 0 → IfHolds a (λ bytes. Moves plan bytes b)
RunReads (Err s) a b status = ⊤
