-- A report and the lines on its layout end the report of an image, and so does one by a plan that is given.
-- `sought_report` and `report_image` cite them.
use Rattle.std.proofs.Common.{◌≡◌, ℕ, List, Option, subst, sym, refl, inl, inr, string_bytes}
use Rattle.std.specs.Prelude.{Result, Ok, Err, MatchResult}
use Rattle.layout_spec.specs.declared.Known.{Known}
use Rattle.region_report.specs.Reports.{ReportHeld}
use Rattle.report_tool.specs.declared.plan.Plan.{Plan}
use Rattle.report_tool.specs.Images.{IsReported}
use Rattle.report_entry.specs.declared.reports.HintedPlan.{HintedPlan}
use Rattle.report_entry.specs.declared.laying.Layouts.{Layouts}
use Rattle.report_entry.specs.declared.laying.Layouts.TheVariants.{Given}
use Rattle.report_run.specs.declared.plans.Asked.{Asked}
use Rattle.report_run.specs.declared.failures.Failure.{Failure}
use Rattle.report_run.specs.Messages.{Seen}
use Rattle.report_run.specs.Looking.{IsLooking}
use Rattle.report_run.specs.Plans.{IsAskedPlan}
use Rattle.report_run.specs.Images.{TellsLayout, IsNotTold, IsStopped, IsSoughtReport, IsNoSoughtReport}
use Rattle.report_run.specs.Reports.{IsReport, IsNoReport}

module _ (asked : Asked) (known : Known) (path : List ℕ) (holds same : Option (List ℕ)) (told : HintedPlan)
    (planned : IsAskedPlan asked known path holds told) (first looked : Seen)
    (looking : IsLooking known path holds first looked) (e : same ≡ holds) where
  -- the report by the plan stopped
  pub unreported : (given now : Option (List ℕ)) (put0 put1 read0 read1 read2 : ℕ) (why : Failure)
      → read1 ≡ read0 → IsStopped asked.format path told.plan same read1 read2 given now put0 put1 why
      → IsNoSoughtReport asked known path holds read0 read2 given now put0 put1 first looked why
  unreported given now put0 put1 read0 read1 read2 why unread h = inr (inr (record {
    told = told;
    planned = planned;
    looked = looked;
    looking = looking;
    cause = subst (λ (n : ℕ). IsStopped asked.format path told.plan holds n read2 given now put0 put1 why) unread
        (subst (λ (o : Option (List ℕ)). IsStopped asked.format path told.plan o read1 read2 given now put0 put1 why) e
        h);
    silent = refl;
  }))

  module _ (given between now : Option (List ℕ)) (report : ReportHeld)
      (reported : IsReported asked.format path told.plan same given between report) (lines : List ℕ)
      (are : lines ≡ string_bytes told.hint) (put0 put1 put2 : ℕ) (kept : put1 ≡ put0) (b : Seen) where
    here : IsReported asked.format path told.plan holds given between report
    here = subst (λ (o : Option (List ℕ)). IsReported asked.format path told.plan o given between report) e reported

    -- the lines were told behind it
    pub ended : TellsLayout asked.format lines between now looked b
        → IsSoughtReport asked known path holds given now first b report
    ended tells = record {
      told = told;
      planned = planned;
      looked = looked;
      looking = looking;
      between = between;
      reported = here;
      lines = subst (λ (t : List ℕ). TellsLayout asked.format t between now looked b) are tells;
    }

    -- or they failed
    pub unended : (read0 read1 : ℕ) (why : Failure) → read1 ≡ read0
        → IsNotTold asked.format lines between now put1 put2 looked b why
        → IsNoSoughtReport asked known path holds read0 read1 given now put0 put2 first b why
    unended read0 read1 why unread fails = inr (inl (record {
      no_read_fault = unread;
      told = told;
      planned = planned;
      looked = looked;
      looking = looking;
      between = between;
      report = report;
      reported = here;
      cause = subst (λ (p : ℕ). IsNotTold asked.format (string_bytes told.hint) between now p put2 looked b why) kept
          (subst (λ (t : List ℕ). IsNotTold asked.format t between now put1 put2 looked b why) are fails);
    }))

-- a plan that is given: nothing goes to standard error
pub by_given : (asked : Asked) (plan : Plan) (path : List ℕ) (holds given now : Option (List ℕ))
    (put0 put1 read0 read1 : ℕ) (a : Seen) (r : Result ReportHeld Failure) → asked.layouts ≡ Given plan
    → MatchResult r (IsReported asked.format path plan holds given now)
    (IsStopped asked.format path plan holds read0 read1 given now put0 put1)
    → MatchResult r (IsReport asked.layouts asked path holds given now a a)
    (IsNoReport asked.layouts asked path holds read0 read1 given now put0 put1 a a)
by_given asked plan path holds given now put0 put1 read0 read1 a r e h =
    subst (λ (l : Layouts). MatchResult r (IsReport l asked path holds given now a a)
    (IsNoReport l asked path holds read0 read1 given now put0 put1 a a)) (sym e) (plainly r h)
  where
    plainly : (r : Result ReportHeld Failure)
        → MatchResult r (IsReported asked.format path plan holds given now)
        (IsStopped asked.format path plan holds read0 read1 given now put0 put1)
        → MatchResult r (IsReport (Given plan) asked path holds given now a a)
        (IsNoReport (Given plan) asked path holds read0 read1 given now put0 put1 a a)
    plainly (Ok report) h = record { reported = h; silent = refl }
    plainly (Err why) h = record { cause = h; silent = refl }
