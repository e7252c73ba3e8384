-- A packed record's text as a log, and its report behind the line on what does not inflate. `packed_log` and
-- `report_packed` cite them.
use Rattle.std.proofs.Common.{◌≡◌, ℕ, List, take, Option, Some, subst, inr}
use Rattle.std.specs.Prelude.{Result, Ok, Err, MatchResult, IfSome}
use Rattle.packed_record.specs.Packed.{stream_of, IsText}
use Rattle.report_spec.specs.declared.TextFault.{TextFault}
use Rattle.region_report.specs.Reports.{ReportHeld}
use Rattle.report_run.specs.declared.boots.HeldLog.{HeldLog}
use Rattle.report_run.specs.declared.plans.Asked.{Asked}
use Rattle.report_run.specs.declared.packed.PackedLog.{PackedLog}
use Rattle.report_run.specs.declared.failures.Failure.{Failure}
use Rattle.report_run.specs.Boots.{IsTextHeld, IsLogShown, IsLogUnshown}
use Rattle.report_run.specs.Logs.{most_log}
use Rattle.report_run.specs.Messages.{Seen, IsPartTold}
use Rattle.report_run.specs.Packed.{IsPackedLog, IsPackedReport, IsNoPackedReport}

pub held : (holds : Option (List ℕ)) (bytes slice text : List ℕ) (fault : Option TextFault) (l : HeldLog)
    → IfSome holds (λ image. bytes ≡ take most_log image) → slice ≡ bytes
    → IsText fault (stream_of slice) most_log text → IsTextHeld text 0 l
    → IsPackedLog holds (record { log = l; fault = fault })
held holds bytes slice text fault l read e is log = record {
  text = text;
  has_text = record {
    bytes = bytes;
    are = read;
    is_text = subst (λ (b : List ℕ). IsText fault (stream_of b) most_log text) e is;
  };
  is_log = log;
}

module _ (asked : Asked) (path : List ℕ) (holds given now : Option (List ℕ)) (read0 read1 put0 put1 : ℕ) (a b : Seen)
    (packed : PackedLog) (is : IsPackedLog holds packed) (told : IsPartTold path packed.fault a b) where
  pub by_text : (r : Result ReportHeld Failure) → read1 ≡ read0
      → MatchResult r (IsLogShown asked path packed.log given now)
      (IsLogUnshown asked path packed.log given now put0 put1)
      → MatchResult r (IsPackedReport asked path holds given now a b)
      (IsNoPackedReport asked path holds read0 read1 given now put0 put1 a b)
  by_text (Ok report) unread h = record { packed = packed; is_log = is; told = told; reported = h }
  by_text (Err why) unread h =
      inr (record { packed = packed; is_log = is; no_read_fault = unread; told = told; cause = h })
