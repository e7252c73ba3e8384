-- An image that is a text log: its text, its boots, and their reports
use Rattle.std.specs.Prelude.{⊤, ℕ, ◌+◌, ◌-◌, ◌^◌, ◌==◌, nat_lt, Bool, true, false, not, if◌then◌else◌}
use Rattle.std.specs.Prelude.{List, length, take, drop, Option, Some, None, IfSome}
use Rattle.std.specs.List.{prefix_len}
use Rattle.text_log_spec.specs.Boots.{IsTextLog}
use Rattle.region_report.specs.Reports.{ReportHeld}
use Rattle.report_run.specs.declared.boots.HeldLog.{HeldLog}
use Rattle.report_run.specs.declared.plans.Asked.{Asked}
use Rattle.report_run.specs.declared.plans.Logs.{Logs}
use Rattle.report_run.specs.declared.plans.Logs.TheVariants.{Never, Texts, All}
use Rattle.report_run.specs.declared.failures.Failure.{Failure}
use Rattle.report_run.specs.Failures.{IsUnread}
use Rattle.report_run.specs.Boots.{IsTextHeld, IsLogShown, IsLogUnshown}

-- so many bytes tell whether an image is a text
abbrev pub front_len : ℕ
front_len = 2 ^ 16

-- so many bytes of a log are read
abbrev pub most_log : ℕ
most_log = 2 ^ 28

-- whether an image is a log
abbrev pub IsLog : Logs → Option (List ℕ) → Type 0
IsLog Never holds = ⊥
IsLog Texts holds = IfSome holds (λ image. IsTextLog (take front_len image))
IsLog All holds = ⊤

abbrev pub IsNoLog : Logs → Option (List ℕ) → Type 0
IsNoLog Never holds = ⊤
IsNoLog Texts holds = IfSome holds (λ image. ¬ (IsTextLog (take front_len image)))
IsNoLog All holds = ⊥

abbrev pub IsSeenLog : Bool → Logs → Option (List ℕ) → Type 0
IsSeenLog true logs holds = IsLog logs holds
IsSeenLog false logs holds = IsNoLog logs holds

-- a text from the first line on that begins in it; all of it, if none ends in it
abbrev pub is_inside : ℕ → Bool
is_inside b = not (b == 10)

abbrev pub line_len : List ℕ → ℕ
line_len text = prefix_len is_inside text

abbrev pub whole_lines : List ℕ → List ℕ
whole_lines text = if nat_lt (line_len text) (length text) then drop (line_len text + 1) text else text

-- the text in a log's last bytes, or in all of it
abbrev pub text_in : Bool → List ℕ → List ℕ
text_in is_cut bytes = if is_cut then whole_lines bytes else bytes

abbrev pub log_text : List ℕ → List ℕ
log_text image = text_in (nat_lt most_log (length image)) (drop (length image - most_log) image)

-- the image's log
abbrev pub IsLogOf : List ℕ → HeldLog → Type 0
IsLogOf image l = IsTextHeld (log_text image) (length image - length (log_text image)) l

pub record IsHeldLog (logs : Logs) (holds : Option (List ℕ)) (l : HeldLog) : Type 0 where
  pub is_log : IsLog logs holds
  pub held : IfSome holds (λ image. IsLogOf image l)

abbrev pub IsLooked : Logs → Option (List ℕ) → Option HeldLog → Type 0
IsLooked logs holds None = IsNoLog logs holds
IsLooked logs holds (Some l) = IsHeldLog logs holds l

-- why it is not known whether an image is a log. With `Never` nothing is read, so nothing fails
abbrev pub IsUnlooked : Logs → ℕ → ℕ → Failure → Type 0
IsUnlooked Never before now why = ⊥
IsUnlooked other before now why = IsUnread before now why

-- the report of that log
pub record IsLogReport (asked : Asked) (path : List ℕ) (holds given now : Option (List ℕ)) (report : ReportHeld)
    : Type 0 where
  pub log : HeldLog
  pub held : IsHeldLog asked.logs holds log
  pub reported : IsLogShown asked path log given now report

-- why an image that is a text log was not reported, or not all of it
pub record IsHeldUnreported (asked : Asked) (path : List ℕ) (holds given now : Option (List ℕ))
    (put_before put_now : ℕ) (why : Failure) : Type 0 where
  pub log : HeldLog
  pub held : IsHeldLog asked.logs holds log
  pub cause : IsLogUnshown asked path log given now put_before put_now why
