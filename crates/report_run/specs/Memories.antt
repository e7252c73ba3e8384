-- A whole memory: the regions in it, one after another, and why not all were reported
use Rattle.std.specs.Prelude.{◌≡◌, ◌⊎◌, ℕ, List, [], ◌∷◌, Option, Some, None}
use Rattle.layout_spec.specs.declared.Known.{Known}
use Rattle.found_regions.specs.declared.region.Region.{Region}
use Rattle.report_tool.specs.declared.plan.Plan.{Plan}
use Rattle.report_entry.specs.declared.laying.Layouts.{Layouts}
use Rattle.report_entry.specs.declared.laying.Layouts.TheVariants.{Given, Sought}
use Rattle.report_run.specs.declared.plans.Asked.{Asked}
use Rattle.report_run.specs.declared.plans.WholeMemory.{WholeMemory}
use Rattle.report_run.specs.declared.failures.Failure.{Failure}
use Rattle.report_run.specs.declared.failures.Failure.TheVariants.{NoPlace, Memory}
use Rattle.report_run.specs.Choice.{AreChosen, AreUnchosen}
use Rattle.report_run.specs.Messages.{Seen}
use Rattle.report_run.specs.Places.{region_name}
use Rattle.report_run.specs.Regions.{IsPlaceDone, IsPlaceUndone, IsRegionDone, IsRegionUntold, IsRegionUndone}
use Rattle.report_run.specs.States.{Folder, State}

-- ---- regions, one after another

pub record IsNamedDone (asked : Asked) (path : List ℕ) (base : ℕ) (region : Region) (holds : Option (List ℕ))
    (a b : State) : Type 0 where
  pub done : IsRegionDone asked (region_name path base region.place) region holds a b

unfoldable pub AreRegionsDone : Asked → List ℕ → ℕ → Option (List ℕ) → List Region → State → State → Type 0
AreRegionsDone asked path base holds [] a b = b ≡ a
AreRegionsDone asked path base holds (region ∷ regions) a b =
    (m : State) × IsNamedDone asked path base region holds a m × AreRegionsDone asked path base holds regions m b

-- memory ran out before, or it was not done
abbrev pub IsNamedUndone : Asked → List ℕ → ℕ → Region → Option (List ℕ) → ℕ → ℕ → State → State → Failure → Type 0
IsNamedUndone asked path base region holds read_before read_now a b why =
    IsRegionUntold read_before read_now a b why
    ⊎ IsRegionUndone asked (region_name path base region.place) region holds read_before read_now a b why

-- the first that fails ends it, and no read failed before
unfoldable pub AreRegionsUndone : Asked → List ℕ → ℕ → Option (List ℕ) → ℕ → ℕ → List Region → State → State → Failure
    → Type 0
AreRegionsUndone asked path base holds read_before read_now [] a b why = ⊥
AreRegionsUndone asked path base holds read_before read_now (region ∷ regions) a b why =
    IsNamedUndone asked path base region holds read_before read_now a b why
    ⊎ ((m : State) × IsNamedDone asked path base region holds a m
    × AreRegionsUndone asked path base holds read_before read_now regions m b why)

-- ---- a layout that is given: the region at the place that is named; nothing goes to standard error

-- memory ran out before
pub record IsUnbegun (cause why : Failure) (read_before read_now : ℕ) (given now : Option (List ℕ))
    (put_before put_now : ℕ) (made made_now : Folder) : Type 0 where
  pub why_is : why ≡ cause
  pub no_read_fault : read_now ≡ read_before
  pub unput : now ≡ given
  pub no_put_fault : put_now ≡ put_before
  pub unmade : made_now ≡ made

abbrev pub IsByGiven : Option ℕ → Asked → Plan → List ℕ → ℕ → Option (List ℕ) → Option (List ℕ) → Option (List ℕ)
    → Folder → Folder → Type 0
IsByGiven None asked plan path base holds given now made made_now = ⊥
IsByGiven (Some place) asked plan path base holds given now made made_now =
    IsPlaceDone asked plan (region_name path base place) place holds given now made made_now

abbrev pub IsNotByGiven : Option ℕ → Asked → Plan → List ℕ → ℕ → Option (List ℕ) → ℕ → ℕ → Option (List ℕ)
    → Option (List ℕ) → ℕ → ℕ → Folder → Folder → Failure → Type 0
IsNotByGiven None asked plan path base holds read_before read_now given now put_before put_now made made_now why =
    IsUnbegun NoPlace why read_before read_now given now put_before put_now made made_now
IsNotByGiven (Some place) asked plan path base holds read_before read_now given now put_before put_now made made_now
    why =
    IsUnbegun Memory why read_before read_now given now put_before put_now made made_now
    ⊎ IsPlaceUndone asked plan (region_name path base place) place holds read_before read_now given now put_before
    put_now made made_now why

-- ---- layouts that are looked for: regions are chosen, and then reported

pub record IsBySearch (asked : Asked) (whole : WholeMemory) (known : Known) (path : List ℕ)
    (holds : Option (List ℕ)) (a b : State) : Type 0 where
  pub regions : List Region
  pub between : Seen
  pub chosen : AreChosen whole.place asked known path whole.base holds a.errors between regions
  pub done : AreRegionsDone asked path whole.base holds regions (record a { errors = between }) b

-- none is chosen: nothing was given out
pub record IsUnchosen (asked : Asked) (whole : WholeMemory) (known : Known) (path : List ℕ)
    (holds : Option (List ℕ)) (read_before read_now : ℕ) (a b : State) (why : Failure) : Type 0 where
  pub cause : AreUnchosen whole.place asked known path whole.base holds read_before read_now a.errors b.errors why
  pub unput : b.out ≡ a.out
  pub no_put_fault : b.out_faults ≡ a.out_faults
  pub unmade : b.files ≡ a.files

pub record IsChosenUndone (asked : Asked) (whole : WholeMemory) (known : Known) (path : List ℕ)
    (holds : Option (List ℕ)) (read_before read_now : ℕ) (a b : State) (why : Failure) : Type 0 where
  pub regions : List Region
  pub between : Seen
  pub chosen : AreChosen whole.place asked known path whole.base holds a.errors between regions
  pub undone : AreRegionsUndone asked path whole.base holds read_before read_now regions
      (record a { errors = between }) b why

abbrev pub IsNotBySearch : Asked → WholeMemory → Known → List ℕ → Option (List ℕ) → ℕ → ℕ → State → State → Failure
    → Type 0
IsNotBySearch asked whole known path holds read_before read_now a b why =
    IsUnchosen asked whole known path holds read_before read_now a b why
    ⊎ IsChosenUndone asked whole known path holds read_before read_now a b why

-- ---- a whole memory

pub record IsGivenDone (asked : Asked) (plan : Plan) (whole : WholeMemory) (path : List ℕ) (holds : Option (List ℕ))
    (a b : State) : Type 0 where
  pub done : IsByGiven whole.place asked plan path whole.base holds a.out b.out a.files b.files
  pub no_fault : b.out_faults ≡ a.out_faults
  pub silent : b.errors ≡ a.errors

pub record IsGivenUndone (asked : Asked) (plan : Plan) (whole : WholeMemory) (path : List ℕ)
    (holds : Option (List ℕ)) (read_before read_now : ℕ) (a b : State) (why : Failure) : Type 0 where
  pub cause : IsNotByGiven whole.place asked plan path whole.base holds read_before read_now a.out b.out a.out_faults
      b.out_faults a.files b.files why
  pub silent : b.errors ≡ a.errors

abbrev pub IsMemoryDone : Layouts → Asked → WholeMemory → List ℕ → Option (List ℕ) → State → State → Type 0
IsMemoryDone (Given plan) asked whole path holds a b = IsGivenDone asked plan whole path holds a b
IsMemoryDone (Sought known) asked whole path holds a b = IsBySearch asked whole known path holds a b

abbrev pub IsMemoryUndone : Layouts → Asked → WholeMemory → List ℕ → Option (List ℕ) → ℕ → ℕ → State → State → Failure
    → Type 0
IsMemoryUndone (Given plan) asked whole path holds read_before read_now a b why =
    IsGivenUndone asked plan whole path holds read_before read_now a b why
IsMemoryUndone (Sought known) asked whole path holds read_before read_now a b why =
    IsNotBySearch asked whole known path holds read_before read_now a b why
