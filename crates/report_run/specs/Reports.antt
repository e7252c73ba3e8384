-- The report of any image, and why there is none
use Rattle.std.specs.Prelude.{◌≡◌, ◌⊎◌, ℕ, Bool, true, false, List, Option}
use Rattle.layout_spec.specs.declared.Known.{Known}
use Rattle.region_report.specs.Reports.{ReportHeld}
use Rattle.report_tool.specs.declared.plan.Plan.{Plan}
use Rattle.report_tool.specs.Images.{IsReported}
use Rattle.report_entry.specs.declared.laying.Layouts.{Layouts}
use Rattle.report_entry.specs.declared.laying.Layouts.TheVariants.{Given, Sought}
use Rattle.report_run.specs.declared.plans.Asked.{Asked}
use Rattle.report_run.specs.declared.plans.Logs.{Logs}
use Rattle.report_run.specs.declared.failures.Failure.{Failure}
use Rattle.report_run.specs.Messages.{Seen}
use Rattle.report_run.specs.Images.{IsStopped}
use Rattle.report_run.specs.Packed.{is_packed, IsPackedReport, IsNoPackedReport}
use Rattle.report_run.specs.Logs.{IsNoLog, IsUnlooked, IsLogReport, IsHeldUnreported}
use Rattle.report_run.specs.Storages.{IsUnloggedReport, IsNoUnloggedReport}

-- ---- an image of which no layout is known

-- it is a text log
pub record IsAsLog (asked : Asked) (path : List ℕ) (holds given now : Option (List ℕ)) (a b : Seen)
    (report : ReportHeld) : Type 0 where
  pub reported : IsLogReport asked path holds given now report
  pub silent : b ≡ a

-- or it is no text log
pub record IsAsUnlogged (asked : Asked) (known : Known) (path : List ℕ) (holds given now : Option (List ℕ)) (a b : Seen)
    (report : ReportHeld) : Type 0 where
  pub no_log : IsNoLog asked.logs holds
  pub reported : IsUnloggedReport asked known path holds given now a b report

abbrev pub IsUnknownReport : Asked → Known → List ℕ → Option (List ℕ) → Option (List ℕ) → Option (List ℕ)
    → Seen → Seen → ReportHeld → Type 0
IsUnknownReport asked known path holds given now a b report =
    IsAsLog asked path holds given now a b report ⊎ IsAsUnlogged asked known path holds given now a b report

-- it could not be read: nothing was given out
pub record IsUnseenLog (logs : Logs) (read_before read_now : ℕ) (given now : Option (List ℕ)) (put_before put_now : ℕ)
    (a b : Seen) (why : Failure) : Type 0 where
  pub cause : IsUnlooked logs read_before read_now why
  pub unput : now ≡ given
  pub no_put_fault : put_now ≡ put_before
  pub silent : b ≡ a

pub record IsNotAsLog (asked : Asked) (path : List ℕ) (holds : Option (List ℕ)) (read_before read_now : ℕ)
    (given now : Option (List ℕ)) (put_before put_now : ℕ) (a b : Seen) (why : Failure) : Type 0 where
  pub no_read_fault : read_now ≡ read_before
  pub cause : IsHeldUnreported asked path holds given now put_before put_now why
  pub silent : b ≡ a

pub record IsNotUnlogged (asked : Asked) (known : Known) (path : List ℕ) (holds : Option (List ℕ))
    (read_before read_now : ℕ) (given now : Option (List ℕ)) (put_before put_now : ℕ) (a b : Seen) (why : Failure)
    : Type 0 where
  pub no_log : IsNoLog asked.logs holds
  pub cause : IsNoUnloggedReport asked known path holds read_before read_now given now put_before put_now a b why

abbrev pub IsNoUnknownReport : Asked → Known → List ℕ → Option (List ℕ) → ℕ → ℕ → Option (List ℕ) → Option (List ℕ)
    → ℕ → ℕ → Seen → Seen → Failure → Type 0
IsNoUnknownReport asked known path holds read_before read_now given now put_before put_now a b why =
    IsUnseenLog asked.logs read_before read_now given now put_before put_now a b why
    ⊎ (IsNotAsLog asked path holds read_before read_now given now put_before put_now a b why
    ⊎ IsNotUnlogged asked known path holds read_before read_now given now put_before put_now a b why)

-- ---- an image whose layout is not given: a packed record, by its name, or what its bytes show

abbrev pub IsUnlaidReport : Bool → Asked → Known → List ℕ → Option (List ℕ) → Option (List ℕ) → Option (List ℕ)
    → Seen → Seen → ReportHeld → Type 0
IsUnlaidReport true asked known path holds given now a b report = IsPackedReport asked path holds given now a b report
IsUnlaidReport false asked known path holds given now a b report =
    IsUnknownReport asked known path holds given now a b report

abbrev pub IsNoUnlaidReport : Bool → Asked → Known → List ℕ → Option (List ℕ) → ℕ → ℕ → Option (List ℕ)
    → Option (List ℕ) → ℕ → ℕ → Seen → Seen → Failure → Type 0
IsNoUnlaidReport true asked known path holds read_before read_now given now put_before put_now a b why =
    IsNoPackedReport asked path holds read_before read_now given now put_before put_now a b why
IsNoUnlaidReport false asked known path holds read_before read_now given now put_before put_now a b why =
    IsNoUnknownReport asked known path holds read_before read_now given now put_before put_now a b why

-- ---- any image

pub record IsGivenReport (asked : Asked) (plan : Plan) (path : List ℕ) (holds given now : Option (List ℕ)) (a b : Seen)
    (report : ReportHeld) : Type 0 where
  pub reported : IsReported asked.format path plan holds given now report
  pub silent : b ≡ a

abbrev pub IsReport : Layouts → Asked → List ℕ → Option (List ℕ) → Option (List ℕ) → Option (List ℕ) → Seen → Seen
    → ReportHeld → Type 0
IsReport (Given plan) asked path holds given now a b report =
    IsGivenReport asked plan path holds given now a b report
IsReport (Sought known) asked path holds given now a b report =
    IsUnlaidReport (is_packed asked.logs path) asked known path holds given now a b report

pub record IsNoGivenReport (asked : Asked) (plan : Plan) (path : List ℕ) (holds : Option (List ℕ))
    (read_before read_now : ℕ) (given now : Option (List ℕ)) (put_before put_now : ℕ) (a b : Seen) (why : Failure)
    : Type 0 where
  pub cause : IsStopped asked.format path plan holds read_before read_now given now put_before put_now why
  pub silent : b ≡ a

abbrev pub IsNoReport : Layouts → Asked → List ℕ → Option (List ℕ) → ℕ → ℕ → Option (List ℕ) → Option (List ℕ)
    → ℕ → ℕ → Seen → Seen → Failure → Type 0
IsNoReport (Given plan) asked path holds read_before read_now given now put_before put_now a b why =
    IsNoGivenReport asked plan path holds read_before read_now given now put_before put_now a b why
IsNoReport (Sought known) asked path holds read_before read_now given now put_before put_now a b why =
    IsNoUnlaidReport (is_packed asked.logs path) asked known path holds read_before read_now given now put_before
    put_now a b why
