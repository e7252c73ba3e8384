-- A report by the plan of a layout is the report of a region, and what refuses it refuses the region. `region_report`
-- cites it.
use Rattle.std.proofs.Common.{◌≡◌, ℕ, List, subst, refl}
use Rattle.std.specs.Prelude.{Result, Ok, Err, MatchResult}
use Rattle.std.specs.declared.string.String.{String}
use Rattle.std.specs.declared.alloc.Global.{Global}
use Rattle.report_tool.specs.declared.showing.Format.{Format}
use Rattle.report_entry.specs.declared.laying.Layouts.{Layouts}
use Rattle.report_entry.specs.declared.reports.HintedPlan.{HintedPlan}
use Rattle.report_entry.specs.declared.reports.Reported.{Reported}
use Rattle.report_entry.specs.declared.reports.Refusal.{Refusal}
use Rattle.report_entry.specs.declared.reports.Refusal.TheVariants.{NoLayout, Memory, Short, NotFound, Unexplained}
use Rattle.report_entry.specs.declared.reports.Refusal.TheVariants.{Unfinished, Undivided}
use Rattle.report_entry.specs.Layouts.{IsLayout}
use Rattle.report_entry.specs.Reports.{IsPlanOf, IsReportBy, IsNotReportedBy, IsRegionReport, IsRegionRefused}

module _ (words : List (String Global)) (tree : List ℕ) (format : Format) (name image : List ℕ) (layouts : Layouts)
    (told : HintedPlan) (laid : IsLayout words tree layouts) (planned : IsPlanOf layouts name image told) where
  pub ended : (r : Result Reported Refusal)
      → MatchResult r (IsReportBy told format name image) (IsNotReportedBy told image)
      → MatchResult r (IsRegionReport words tree format name image) (IsRegionRefused words tree name image)
  ended (Ok r) h = record { layouts = layouts; laid = laid; told = told; planned = planned; reported = h }
  ended (Err (Short needed)) h =
      record { layouts = layouts; laid = laid; told = told; planned = planned; needs = h.0; short = h.1 }
  ended (Err Memory) h = record { layouts = layouts; laid = laid }
  ended (Err (NoLayout none)) h = absurd h
  ended (Err NotFound) h = absurd h
  ended (Err (Unexplained hint)) h = absurd h
  ended (Err (Unfinished hint)) h = absurd h
  ended (Err (Undivided fault)) h = absurd h

-- the same of the image's bytes as the calls see them
pub report_ended : (words : List (String Global)) (tree : List ℕ) (format : Format) (name image : List ℕ)
    (layouts : Layouts) (told : HintedPlan) (i j : List ℕ) → i ≡ image → j ≡ image → IsLayout words tree layouts
    → IsPlanOf layouts name i told → (r : Result Reported Refusal)
    → MatchResult r (IsReportBy told format name j) (IsNotReportedBy told j)
    → MatchResult r (IsRegionReport words tree format name image) (IsRegionRefused words tree name image)
report_ended words tree format name image layouts told i j ei ej laid planned r h =
    ended words tree format name image layouts told laid
    (subst (λ (x : List ℕ). IsPlanOf layouts name x told) ei planned) r
    (subst (λ (x : List ℕ). MatchResult r (IsReportBy told format name x) (IsNotReportedBy told x)) ej h)
