-- Regions of the size that words give are looked for where no place is named. `placed_layouts` cites it.
use Rattle.std.proofs.Common.{◌≡◌, Bool, List, Some, subst, sym, inr}
use Rattle.std.specs.Prelude.{Result, Ok, Err, MatchResult}
use Rattle.std.specs.declared.string.String.{String}
use Rattle.std.specs.declared.alloc.Global.{Global}
use Rattle.report_tool.specs.declared.plan.Plan.{Plan}
use Rattle.report_tool.specs.Plans.{IsPlan}
use Rattle.report_entry.specs.declared.laying.Layouts.{Layouts}
use Rattle.report_entry.specs.declared.laying.LayoutsFault.{LayoutsFault}
use Rattle.report_entry.specs.declared.laying.Place.{Place}
use Rattle.report_entry.specs.declared.laying.Place.TheVariants.{Anywhere}
use Rattle.report_entry.specs.Layouts.{IsSoughtLayout, IsUnplaced, ArePlacedLayouts, AreNoPlacedLayouts}

module _ (words : List (String Global)) (is_as_given : Bool) (plan : Plan) (is_plan : IsPlan words is_as_given plan)
  where
    anywhere : (r : Result Layouts LayoutsFault)
        → MatchResult r (IsSoughtLayout words (Some plan.mem)) (IsUnplaced words)
        → MatchResult r (ArePlacedLayouts Anywhere words is_as_given) (AreNoPlacedLayouts Anywhere words is_as_given)
    anywhere (Ok layouts) h = record { plan = plan; is_plan = is_plan; is_sought = h }
    anywhere (Err fault) h = inr (record { plan = plan; is_plan = is_plan; unplaced = h })

    pub sized : (place : Place) → place ≡ Anywhere → (r : Result Layouts LayoutsFault)
        → MatchResult r (IsSoughtLayout words (Some plan.mem)) (IsUnplaced words)
        → MatchResult r (ArePlacedLayouts place words is_as_given) (AreNoPlacedLayouts place words is_as_given)
    sized place e r h =
        subst (λ (p : Place). MatchResult r (ArePlacedLayouts p words is_as_given)
        (AreNoPlacedLayouts p words is_as_given))
        (sym e) (anywhere r h)
