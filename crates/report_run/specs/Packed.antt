-- A record that pstore left packed: the report of its text
use Rattle.std.specs.Prelude.{◌≡◌, ◌⊎◌, ℕ, ◌<◌, Bool, true, false, ◌&&◌, List, length, take, Option, Some, IfSome}
use Rattle.outside.specs.Outside.{Rose}
use Rattle.packed_record.specs.Packed.{is_packed_name, stream_of, IsText}
use Rattle.region_report.specs.Reports.{ReportHeld}
use Rattle.report_run.specs.declared.plans.Asked.{Asked}
use Rattle.report_run.specs.declared.plans.Logs.{Logs}
use Rattle.report_run.specs.declared.plans.Logs.TheVariants.{Never}
use Rattle.report_run.specs.declared.packed.PackedLog.{PackedLog}
use Rattle.report_run.specs.declared.failures.Failure.{Failure}
use Rattle.report_run.specs.declared.failures.Failure.TheVariants.{Memory, Unread, NoText}
use Rattle.report_run.specs.Boots.{IsTextHeld, IsLogShown, IsLogUnshown}
use Rattle.report_run.specs.Logs.{most_log}
use Rattle.report_run.specs.Messages.{Seen, IsPartTold}
use Rattle.report_spec.specs.declared.TextFault.{TextFault}

abbrev pub takes_logs : Logs → Bool
takes_logs Never = false
takes_logs other = true

-- a file is taken by its name
abbrev pub is_packed : Logs → List ℕ → Bool
is_packed logs path = takes_logs logs && is_packed_name path

-- the text of the file's bytes, and why no more of it inflates
pub record HasText (holds : Option (List ℕ)) (fault : Option TextFault) (text : List ℕ) : Type 0 where
  pub bytes : List ℕ
  pub are : IfSome holds (λ image. bytes ≡ take most_log image)
  pub is_text : IsText fault (stream_of bytes) most_log text

-- as a log; its boots are named by their places in the text
pub record IsPackedLog (holds : Option (List ℕ)) (packed : PackedLog) : Type 0 where
  pub text : List ℕ
  pub has_text : HasText holds packed.fault text
  pub is_log : IsTextHeld text 0 packed.log

pub record HasNoText (holds : Option (List ℕ)) : Type 0 where
  pub fault : Option TextFault
  pub text : List ℕ
  pub has_text : HasText holds fault text
  pub none : length text ≡ 0

-- memory ran out, it could not be read, or nothing of it inflates; a read failed only if that is told
abbrev pub IsUninflated : Option (List ℕ) → ℕ → ℕ → Failure → Type 0
IsUninflated holds before now Memory = now ≡ before
IsUninflated holds before now Unread = Rose before now
IsUninflated holds before now NoText = (now ≡ before) × HasNoText holds
IsUninflated holds before now other = ⊥

-- the report of that log, behind the line on what does not inflate
pub record IsPackedReport (asked : Asked) (path : List ℕ) (holds given now : Option (List ℕ)) (a b : Seen)
    (report : ReportHeld) : Type 0 where
  pub packed : PackedLog
  pub is_log : IsPackedLog holds packed
  pub told : IsPartTold path packed.fault a b
  pub reported : IsLogShown asked path packed.log given now report

-- there is no text: nothing was given out
pub record IsPackedUnread (holds : Option (List ℕ)) (read_before read_now : ℕ) (given now : Option (List ℕ))
    (put_before put_now : ℕ) (a b : Seen) (why : Failure) : Type 0 where
  pub cause : IsUninflated holds read_before read_now why
  pub unput : now ≡ given
  pub no_put_fault : put_now ≡ put_before
  pub silent : b ≡ a

-- or it was not reported
pub record IsPackedUnreported (asked : Asked) (path : List ℕ) (holds : Option (List ℕ)) (read_before read_now : ℕ)
    (given now : Option (List ℕ)) (put_before put_now : ℕ) (a b : Seen) (why : Failure) : Type 0 where
  pub packed : PackedLog
  pub is_log : IsPackedLog holds packed
  pub no_read_fault : read_now ≡ read_before
  pub told : IsPartTold path packed.fault a b
  pub cause : IsLogUnshown asked path packed.log given now put_before put_now why

abbrev pub IsNoPackedReport : Asked → List ℕ → Option (List ℕ) → ℕ → ℕ → Option (List ℕ) → Option (List ℕ) → ℕ → ℕ
    → Seen → Seen → Failure → Type 0
IsNoPackedReport asked path holds read_before read_now given now put_before put_now a b why =
    IsPackedUnread holds read_before read_now given now put_before put_now a b why
    ⊎ IsPackedUnreported asked path holds read_before read_now given now put_before put_now a b why
