-- How the report of a part of a log ends. `report_part` cites it.
use Rattle.std.proofs.Common.{◌≡◌, ℕ, List, Option, Some, subst, inr}
use Rattle.std.specs.Prelude.{Result, Ok, Err, MatchResult}
use Rattle.log_image.specs.declared.LogImage.{LogImage}
use Rattle.log_image.specs.Images.{IsLogImage}
use Rattle.region_report.specs.Reports.{ReportHeld}
use Rattle.report_tool.specs.declared.plan.Plan.{Plan}
use Rattle.report_tool.specs.declared.showing.Format.{Format}
use Rattle.report_tool.specs.Images.{IsReported}
use Rattle.report_run.specs.declared.plans.Asked.{Asked}
use Rattle.report_run.specs.declared.failures.Failure.{Failure}
use Rattle.report_run.specs.Images.{IsStopped, IsStoppedAt}
use Rattle.report_run.specs.Plans.{dressed, map_of}
use Rattle.report_run.specs.Boots.{IsPartShown, IsPartUnshown}

module _ (asked : Asked) (format : Format) (name part : List ℕ) (image : LogImage) (is_image : IsLogImage part image)
    (plan : Plan) (is_plan : plan ≡ dressed image.plan asked.lines (map_of asked.map)) (holds : Option (List ℕ))
    (is_region : holds ≡ Some image.region.items) (given now : Option (List ℕ)) (put0 put1 : ℕ) where
  -- by the plan of its image
  pub by_plan : (r : Result ReportHeld Failure) → MatchResult r (IsReported format name plan holds given now)
      (IsStopped format name plan holds 0 0 given now put0 put1)
      → MatchResult r (IsPartShown asked format name part given now)
      (IsPartUnshown asked format name part given now put0 put1)
  by_plan (Ok report) h = record {
    image = image;
    is_image = is_image;
    reported = subst (λ (p : Plan). IsReported format name p (Some image.region.items) given now report) is_plan
        (subst (λ (o : Option (List ℕ)). IsReported format name plan o given now report) is_region h);
  }
  by_plan (Err why) h = inr (record {
    image = image;
    is_image = is_image;
    cause = subst (λ (p : Plan). IsStoppedAt format name p image.region.items given now put0 put1 why) is_plan
        (subst (λ (o : Option (List ℕ)). IsStopped format name plan o 0 0 given now put0 put1 why) is_region h);
  })
