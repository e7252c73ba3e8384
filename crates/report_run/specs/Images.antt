-- The report of one image, and why there is none
use Rattle.std.specs.Prelude.{◌≡◌, ◌≢◌, ◌⊎◌, ℕ, List, Option, Some, string_bytes}
use Rattle.std.specs.Io.KnownBytes.{Appends}
use Rattle.outside.specs.Outside.{Rose, AppendsFront}
use Rattle.command_spec.specs.declared.Stop.{Stop}
use Rattle.command_spec.specs.declared.Stop.TheVariants.{ImageFault, SinkFault}
use Rattle.layout_spec.specs.declared.Known.{Known}
use Rattle.region_report.specs.Reports.{ReportHeld}
use Rattle.report_tool.specs.declared.plan.Plan.{Plan}
use Rattle.report_tool.specs.declared.showing.Format.{Format}
use Rattle.report_tool.specs.declared.showing.Format.TheVariants.{Text, Brief}
use Rattle.report_tool.specs.Images.{IsReported, IsNotReported}
use Rattle.report_entry.specs.declared.reports.HintedPlan.{HintedPlan}
use Rattle.report_run.specs.declared.plans.Asked.{Asked}
use Rattle.report_run.specs.declared.failures.Failure.{Failure}
use Rattle.report_run.specs.declared.failures.Failure.TheVariants.{Unwritten}
use Rattle.report_run.specs.Failures.{stop_failure}
use Rattle.report_run.specs.Messages.{Seen, IsTold}
use Rattle.report_run.specs.Looking.{IsLooking, MayLook}
use Rattle.report_run.specs.Plans.{IsAskedPlan, IsNotSought}

-- ---- the lines on a layout: to standard output with a text, and to standard error for JSON and a page; one line has
-- none

pub record IsBeside (lines : List ℕ) (given now : Option (List ℕ)) (a b : Seen) : Type 0 where
  pub put : Appends given now lines
  pub silent : b ≡ a

pub record IsAside (lines : List ℕ) (given now : Option (List ℕ)) (a b : Seen) : Type 0 where
  pub unput : now ≡ given
  pub told : IsTold lines a b

pub record IsUntold (given now : Option (List ℕ)) (a b : Seen) : Type 0 where
  pub unput : now ≡ given
  pub silent : b ≡ a

abbrev pub TellsLayout : Format → List ℕ → Option (List ℕ) → Option (List ℕ) → Seen → Seen → Type 0
TellsLayout Text lines given now a b = IsBeside lines given now a b
TellsLayout Brief lines given now a b = IsUntold given now a b
TellsLayout other lines given now a b = IsAside lines given now a b

-- standard output failed
pub record IsCutOff (lines : List ℕ) (given now : Option (List ℕ)) (before after : ℕ) (a b : Seen) (why : Failure)
    : Type 0 where
  pub put : AppendsFront given now lines
  pub fault : Rose before after
  pub silent : b ≡ a
  pub why_is : why ≡ Unwritten

abbrev pub IsNotTold : Format → List ℕ → Option (List ℕ) → Option (List ℕ) → ℕ → ℕ → Seen → Seen → Failure → Type 0
IsNotTold Text lines given now before after a b why = IsCutOff lines given now before after a b why
IsNotTold other lines given now before after a b why = ⊥

-- ---- the report by a plan: a read failed, or the output, only if that stopped it

pub record IsStopped (format : Format) (path : List ℕ) (plan : Plan) (holds : Option (List ℕ))
    (read_before read_now : ℕ) (given now : Option (List ℕ)) (put_before put_now : ℕ) (why : Failure) : Type 0 where
  pub stop : Stop
  pub cause : IsNotReported format path plan stop holds read_before read_now given now put_before put_now
  pub no_read_fault : stop ≢ ImageFault → read_now ≡ read_before
  pub no_put_fault : stop ≢ SinkFault → put_now ≡ put_before
  pub why_is : why ≡ stop_failure stop

-- the same, of bytes in memory, whose reading does not fail
abbrev pub IsStoppedAt : Format → List ℕ → Plan → List ℕ → Option (List ℕ) → Option (List ℕ) → ℕ → ℕ → Failure → Type 0
IsStoppedAt format path plan bytes given now put_before put_now why =
    IsStopped format path plan (Some bytes) 0 0 given now put_before put_now why

-- ---- an image whose layout is looked for: first a line, if that takes long

pub record IsSoughtReport (asked : Asked) (known : Known) (path : List ℕ) (holds given now : Option (List ℕ))
    (a b : Seen) (report : ReportHeld) : Type 0 where
  pub told : HintedPlan
  pub planned : IsAskedPlan asked known path holds told
  pub looked : Seen
  pub looking : IsLooking known path holds a looked
  pub between : Option (List ℕ)
  pub reported : IsReported asked.format path told.plan holds given between report
  pub lines : TellsLayout asked.format (string_bytes told.hint) between now looked b

-- there is no plan: nothing was given out
pub record IsUnplanned (known : Known) (path : List ℕ) (holds : Option (List ℕ)) (read_before read_now : ℕ)
    (given now : Option (List ℕ)) (put_before put_now : ℕ) (a b : Seen) (why : Failure) : Type 0 where
  pub cause : IsNotSought known path holds read_before read_now why
  pub unput : now ≡ given
  pub no_put_fault : put_now ≡ put_before
  pub looking : MayLook known path holds a b

-- or the lines on the layout failed, behind the report
pub record IsUnended (asked : Asked) (known : Known) (path : List ℕ) (holds : Option (List ℕ))
    (read_before read_now : ℕ) (given now : Option (List ℕ)) (put_before put_now : ℕ) (a b : Seen) (why : Failure)
    : Type 0 where
  pub no_read_fault : read_now ≡ read_before
  pub told : HintedPlan
  pub planned : IsAskedPlan asked known path holds told
  pub looked : Seen
  pub looking : IsLooking known path holds a looked
  pub between : Option (List ℕ)
  pub report : ReportHeld
  pub reported : IsReported asked.format path told.plan holds given between report
  pub cause : IsNotTold asked.format (string_bytes told.hint) between now put_before put_now looked b why

-- or the report by the plan did
pub record IsUnreported (asked : Asked) (known : Known) (path : List ℕ) (holds : Option (List ℕ))
    (read_before read_now : ℕ) (given now : Option (List ℕ)) (put_before put_now : ℕ) (a b : Seen) (why : Failure)
    : Type 0 where
  pub told : HintedPlan
  pub planned : IsAskedPlan asked known path holds told
  pub looked : Seen
  pub looking : IsLooking known path holds a looked
  pub cause : IsStopped asked.format path told.plan holds read_before read_now given now put_before put_now why
  pub silent : b ≡ looked

abbrev pub IsNoSoughtReport : Asked → Known → List ℕ → Option (List ℕ) → ℕ → ℕ → Option (List ℕ) → Option (List ℕ)
    → ℕ → ℕ → Seen → Seen → Failure → Type 0
IsNoSoughtReport asked known path holds read_before read_now given now put_before put_now a b why =
    IsUnplanned known path holds read_before read_now given now put_before put_now a b why
    ⊎ (IsUnended asked known path holds read_before read_now given now put_before put_now a b why
    ⊎ IsUnreported asked known path holds read_before read_now given now put_before put_now a b why)
