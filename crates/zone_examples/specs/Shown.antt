-- What a run of operations shows
use Rattle.std.specs.Prelude.{ℕ, List, [], ◌∷◌, ◌++◌, length, map, zip, Option, Some, None, Result, Ok, Err}
use Rattle.zone_spec.specs.declared.Zone.{Zone}
use Rattle.zone_spec.specs.declared.ZoneName.{ZoneName}
use Rattle.zone_spec.specs.declared.State.{State}
use Rattle.zone_spec.specs.declared.Time.{Time}
use Rattle.zone_spec.specs.declared.Verdict.{Verdict}
use Rattle.zone_spec.specs.declared.CallKind.{CallKind}
use Rattle.zone_spec.specs.declared.HeaderSeen.{HeaderSeen}
use Rattle.zone_spec.specs.Reading.{ZoneReading, zone_reading}
use Rattle.zone_spec.specs.Cut.{CutReport}
use Rattle.zone_spec.specs.Records.{listed_of}
use Rattle.zone_spec.specs.Names.{name_text}
use Rattle.zone_spec.specs.Notices.{content}
use Rattle.machine_spec.specs.Zones.{zone_bytes}
use Rattle.machine_spec.specs.States.{OffZone, OffState, Session, Off, Live}
use Rattle.machine_spec.specs.Off.{fresh}
use Rattle.machine_spec.specs.Erasures.{saved_logs}
use Rattle.machine_spec.specs.Report.{ZoneReport, zone_report}
use Rattle.machine_spec.specs.BootPart.{boot_made}
use Rattle.machine_spec.specs.Operations.{Operation, Boot, BootPart, Cause, operated, left_by, session_after}

-- what a boot shows of a zone
pub record Shown : Type 0 where
  pub name : ZoneName
  pub state : State
  pub start : ℕ
  pub size : ℕ
  pub corrected : ℕ
  pub bad : ℕ
  pub verdict : Verdict
  pub cut : Option CutReport

-- the same in the order of a printed line, without a cut and with one
abbrev pub boot : ZoneName → State → ℕ → ℕ → ℕ → ℕ → Verdict → Shown
boot name state start size corrected bad verdict =
    record {
      name = name;
      state = state;
      start = start;
      size = size;
      corrected = corrected;
      bad = bad;
      verdict = verdict;
      cut = None;
    }

abbrev pub and_cut : Shown → CallKind → ℕ → ℕ → HeaderSeen → List (ℕ × ℕ) → Shown
and_cut shown kind made total header runs =
    record shown { cut = Some (record { kind = kind; made = made; total = total; header = header; runs = runs }) }

abbrev pub shown_by : ZoneReading → ZoneReport → Shown
shown_by r report =
    record {
      name = report.name;
      state = r.state;
      start = r.words.start;
      size = r.words.size;
      corrected = r.corrected;
      bad = r.bad;
      verdict = report.verdict;
      cut = report.cut;
    }

abbrev pub zone_shown : Zone → OffZone → List ℕ → Shown
zone_shown z zone now = shown_by (zone_reading z now) (zone_report z zone now)

abbrev pub shown : List Zone → OffState → List Shown
shown layout off = map (λ (pair : Zone × OffZone). zone_shown pair.0 pair.1 (zone_bytes pair.0 off.image))
    (zip layout off.zones)

-- an answer: of a boot, of a boot that is cut after so many stores, or of a refused operation
pub data Answer : Type 0 where
  Boots : (zones : List Shown) → Answer
  Stops : (made : ℕ) → Answer
  Refuses : (cause : Cause) → Answer

abbrev pub refusal_in : Result Session Cause → List Answer
refusal_in (Ok next) = []
refusal_in (Err cause) = Refuses cause ∷ []

abbrev pub answer : List Zone → Session → Operation → List Answer
answer layout (Off off) Boot = Boots (shown layout off) ∷ []
answer layout (Off off) (BootPart limit) = Stops (boot_made layout limit off) ∷ []
answer layout session operation = refusal_in (operated layout session operation)

unfoldable pub answers : List Zone → Session → List Operation → List Answer
answers layout session [] = []
answers layout session (o ∷ os) = answer layout session o ++ answers layout
    (left_by session (operated layout session o)) os

-- the answers of a run that begins with this image, of which nothing is known, and the state that it leaves
abbrev pub run : List Zone → List ℕ → List Operation → List Answer
run layout image operations = answers layout (Off (fresh layout image)) operations

abbrev pub left : List Zone → List ℕ → List Operation → Session
left layout image operations = session_after layout (Off (fresh layout image)) operations

-- the records of the last boot: name, length with notice, and a dump's time
abbrev pub records : List Zone → Session → List (List ℕ × ℕ × Option Time)
records layout (Off off) = []
records layout (Live live) = map (λ r. (name_text r.name, length (content (saved_logs layout live) r), r.time))
    (listed_of (saved_logs layout live))

-- and their contents
abbrev pub contents : List Zone → Session → List (List ℕ)
contents layout (Off off) = []
contents layout (Live live) = map (λ r. content (saved_logs layout live) r) (listed_of (saved_logs layout live))
