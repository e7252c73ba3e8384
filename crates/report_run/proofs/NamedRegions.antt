-- A region under the name that its place gives it. `report_named` and `report_given` cite them.
use Rattle.std.proofs.Common.{◌≡◌, ℕ, List, Option, Some, subst, sym, inr}
use Rattle.std.specs.Prelude.{Result, Ok, Err, MatchResult}
use Rattle.found_regions.specs.declared.region.Region.{Region}
use Rattle.report_tool.specs.declared.plan.Plan.{Plan}
use Rattle.report_run.specs.declared.plans.Asked.{Asked}
use Rattle.report_run.specs.declared.failures.Failure.{Failure}
use Rattle.report_run.specs.Places.{region_name}
use Rattle.report_run.specs.Regions.{IsPlaceDone, IsPlaceUndone, IsRegionDone, IsRegionUndone}
use Rattle.report_run.specs.States.{Folder, State}
use Rattle.report_run.specs.Memories.{IsNamedDone, IsNamedUndone, IsByGiven, IsNotByGiven}

module _ (asked : Asked) (path : List ℕ) (base : ℕ) (name : List ℕ) (holds : Option (List ℕ)) (read0 read1 : ℕ) where
  pub named : {T : Type 0} (region : Region) (a b : State) (r : Result T Failure)
      → name ≡ region_name path base region.place
      → MatchResult r (λ _. IsRegionDone asked name region holds a b)
      (IsRegionUndone asked name region holds read0 read1 a b)
      → MatchResult r (λ _. IsNamedDone asked path base region holds a b)
      (IsNamedUndone asked path base region holds read0 read1 a b)
  named region a b (Ok value) e h =
      record { done = subst (λ (n : List ℕ). IsRegionDone asked n region holds a b) e h }
  named region a b (Err why) e h =
      inr (subst (λ (n : List ℕ). IsRegionUndone asked n region holds read0 read1 a b why) e h)

  pub given_named : {T : Type 0} (plan : Plan) (at : Option ℕ) (place : ℕ) (given now : Option (List ℕ))
      (put0 put1 : ℕ) (made made_now : Folder) (r : Result T Failure) → at ≡ Some place
      → name ≡ region_name path base place
      → MatchResult r (λ _. IsPlaceDone asked plan name place holds given now made made_now)
      (IsPlaceUndone asked plan name place holds read0 read1 given now put0 put1 made made_now)
      → MatchResult r (λ _. IsByGiven at asked plan path base holds given now made made_now)
      (IsNotByGiven at asked plan path base holds read0 read1 given now put0 put1 made made_now)
  given_named plan at place given now put0 put1 made made_now r at_is e h =
      subst (λ (o : Option ℕ). MatchResult r (λ _. IsByGiven o asked plan path base holds given now made made_now)
      (IsNotByGiven o asked plan path base holds read0 read1 given now put0 put1 made made_now)) (sym at_is)
      (here r (subst (λ (n : List ℕ). MatchResult r
      (λ _. IsPlaceDone asked plan n place holds given now made made_now)
      (IsPlaceUndone asked plan n place holds read0 read1 given now put0 put1 made made_now)) e h))
    where
      here : {T : Type 0} (r : Result T Failure)
          → MatchResult r
          (λ _. IsPlaceDone asked plan (region_name path base place) place holds given now made made_now)
          (IsPlaceUndone asked plan (region_name path base place) place holds read0 read1 given now put0 put1 made
          made_now)
          → MatchResult r (λ _. IsByGiven (Some place) asked plan path base holds given now made made_now)
          (IsNotByGiven (Some place) asked plan path base holds read0 read1 given now put0 put1 made made_now)
      here (Ok value) h = h
      here (Err why) h = inr h
