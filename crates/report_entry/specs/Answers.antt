-- What a call on a report answers
use Rattle.std.specs.Prelude.{◌≡◌, ℕ, ◌+◌, ◌<◌, ◌≤◌, ◌⊎◌, ◌==◌, if◌then◌else◌, List, ◌++◌, length, drop, string_bytes}
use Rattle.std.specs.Prelude.{Option, Some, None, Result, Ok, Err, MatchResult, IsUtf8}
use Rattle.std.specs.declared.string.String.{String}
use Rattle.std.specs.declared.alloc.Global.{Global}
use Rattle.zone_spec.specs.LayoutFaults.{fault_number as layout_number}
use Rattle.grammar_spec.specs.Faults.{fault_number as word_number}
use Rattle.grammar_spec.specs.declared.faults.ParamFault.{ParamFault}
use Rattle.grammar_spec.specs.declared.faults.ParamFault.TheVariants.{UnknownKey, Twice, NotANumber}
use Rattle.storage_words.specs.Division.{size_fault_number}
use Rattle.report_tool.specs.declared.showing.Format.{Format}
use Rattle.report_tool.specs.declared.showing.Format.TheVariants.{Text, Json, Html}
use Rattle.report_entry.specs.declared.laying.NoLayouts.{NoLayouts}
use Rattle.report_entry.specs.declared.laying.NoLayouts.TheVariants.{Memory as LayoutMemory, Word, Unsought, Layout}
use Rattle.report_entry.specs.declared.laying.NoLayouts.TheVariants.{Tree as BadTree}
use Rattle.report_entry.specs.declared.reports.Reported.{Reported}
use Rattle.report_entry.specs.declared.reports.Refusal.{Refusal}
use Rattle.report_entry.specs.declared.reports.Refusal.TheVariants.{NoLayout, Memory as NoMemory, Short as TooShort}
use Rattle.report_entry.specs.declared.reports.Refusal.TheVariants.{NotFound, Unexplained, Unfinished, Undivided}
use Rattle.report_entry.specs.declared.answers.ReportEnd.{ReportEnd}
use Rattle.report_entry.specs.declared.answers.ReportEnd.TheVariants.{Done, Fault, Short, Room, Argument, Memory}
use Rattle.report_entry.specs.declared.answers.ReportEnd.TheVariants.{Unlaid, Tree}
use Rattle.report_entry.specs.declared.answers.ReportAnswer.{ReportAnswer}
use Rattle.report_entry.specs.declared.answers.Asked.{Asked}
use Rattle.report_entry.specs.Memory.{text_bytes}
use Rattle.report_entry.specs.Reports.{IsReportOf, IsRefused}

abbrev pub status_of : ReportEnd → ℕ
status_of Done = 0
status_of Fault = 3
status_of Short = 4
status_of Room = 12
status_of Argument = 13
status_of Memory = 14
status_of Unlaid = 17
status_of Tree = 18

-- ---- a name and a format

abbrev pub format_of : ℕ → Option Format
format_of n = if n == 0 then Some Text else if n == 1 then Some Json else if n == 2 then Some Html else None

pub record IsAsked (name : List ℕ) (format : ℕ) (asked : Asked) : Type 0 where
  pub named : asked.name.now ≡ name
  pub is_text : IsUtf8 name
  pub format_is : format_of format ≡ Some asked.format

abbrev pub IsNotAsked : List ℕ → ℕ → Type 0
IsNotAsked name format = (¬ (IsUtf8 name)) ⊎ (format_of format ≡ None)

-- ---- what is told

abbrev pub text_answer : ℕ → ℕ → ReportAnswer
text_answer hint text = record { hint = hint; text = text; word = 0; fault = 0; needed = 0 }

-- the line on a layout that is not taken, for this reason
abbrev pub hint_answer : ℕ → ℕ → ReportAnswer
hint_answer why len = record { hint = len; text = len; word = 0; fault = why; needed = 0 }

-- a fault by its number and its word
abbrev pub fault_answer : ℕ → ℕ → ReportAnswer
fault_answer number word = record { hint = 0; text = 0; word = word; fault = number; needed = 0 }

abbrev pub needed_answer : ℕ → ReportAnswer
needed_answer needed = record { hint = 0; text = 0; word = 0; fault = 0; needed = needed }

-- a text that fits is the front of the slice, and the rest is as it was
pub record Fits (text old new : List ℕ) : Type 0 where
  pub room : length text ≤ length old
  pub is : new ≡ text ++ drop (length text) old

-- one that does not leaves the slice as it was
pub record IsLonger (text old new : List ℕ) : Type 0 where
  pub longer : length old < length text
  pub kept : new ≡ old

-- a text that fits is handed out with this end, and else there is no room
abbrev pub TellsText : ReportEnd → List ℕ → ReportEnd → List ℕ → List ℕ → Type 0
TellsText end text result old new = ((result ≡ end) × Fits text old new) ⊎ ((result ≡ Room) × IsLonger text old new)

-- the place of the word at fault, from 1
abbrev pub word_place : ParamFault → ℕ
word_place (UnknownKey place) = place + 1
word_place (Twice place) = place + 1
word_place (NotANumber place) = place + 1

abbrev pub TellsNoLayout : NoLayouts → ReportEnd → ReportAnswer → ReportAnswer → Type 0
TellsNoLayout LayoutMemory end before after = (end ≡ Memory) × (after ≡ before)
TellsNoLayout (Word fault) end before after = (end ≡ Fault)
    × (after ≡ fault_answer (word_number fault) (word_place fault))
TellsNoLayout (Unsought key) end before after = (end ≡ Fault) × (after ≡ fault_answer (101 + key) 0)
TellsNoLayout (Layout fault) end before after = (end ≡ Fault) × (after ≡ fault_answer (layout_number fault) 0)
TellsNoLayout (BadTree fault) end before after = (end ≡ Tree) × (after ≡ fault_answer fault 0)

abbrev pub Tells : Result Reported Refusal → ReportEnd → List ℕ → List ℕ → ReportAnswer → ReportAnswer → Type 0
Tells (Ok r) end old new before after = TellsText Done (text_bytes r.text) end old new
    × (after ≡ text_answer r.hint (length (text_bytes r.text)))
Tells (Err (NoLayout none)) end old new before after = TellsNoLayout none end before after × (new ≡ old)
Tells (Err NoMemory) end old new before after = (end ≡ Memory) × (new ≡ old) × (after ≡ before)
Tells (Err (TooShort needed)) end old new before after = (end ≡ Short) × (new ≡ old) × (after ≡ needed_answer needed)
Tells (Err NotFound) end old new before after = (end ≡ Unlaid) × (new ≡ old) × (after ≡ fault_answer 1 0)
Tells (Err (Unexplained hint)) end old new before after = TellsText Unlaid (string_bytes hint) end old new
    × (after ≡ hint_answer 2 (length (string_bytes hint)))
Tells (Err (Unfinished hint)) end old new before after = TellsText Unlaid (string_bytes hint) end old new
    × (after ≡ hint_answer 3 (length (string_bytes hint)))
Tells (Err (Undivided fault)) end old new before after = (end ≡ Fault) × (new ≡ old)
    × (after ≡ fault_answer (size_fault_number fault) 0)

-- there is a report, or a reason why there is none, and it was told
pub record ReportEnds (end : ReportEnd) (words : List (String Global)) (asked : Asked) (tree image old new : List ℕ)
    (before after : ReportAnswer) : Type 0 where
  pub outcome : Result Reported Refusal
  pub is : MatchResult outcome (IsReportOf words tree asked.format asked.name.now image)
      (IsRefused words tree asked.name.now image)
  pub told : Tells outcome end old new before after
