-- The report of a region in a whole memory, and why there is none
use Rattle.std.specs.Prelude.{◌≡◌, ◌⊎◌, ℕ, ◌+◌, ◌<◌, ◌≤◌, List, ◌++◌, length, take, drop, Option, Some}
use Rattle.std.specs.Prelude.{IfSome, string_bytes}
use Rattle.outside.specs.Outside.{Rose}
use Rattle.layout_spec.specs.Laid.{params_of}
use Rattle.layout_search.specs.declared.searching.Found.{Found}
use Rattle.found_regions.specs.declared.region.Region.{Region}
use Rattle.region_report.specs.Reports.{ReportHeld}
use Rattle.report_tool.specs.declared.plan.Plan.{Plan}
use Rattle.report_tool.specs.Plans.{IsLaid}
use Rattle.report_tool.specs.Images.{IsReported}
use Rattle.report_entry.specs.Hints.{IsTakenHint}
use Rattle.report_run.specs.declared.plans.Asked.{Asked}
use Rattle.report_run.specs.declared.regions.RegionTold.{RegionTold}
use Rattle.report_run.specs.declared.failures.Failure.{Failure}
use Rattle.report_run.specs.declared.failures.Failure.TheVariants.{Memory, Unread, Beyond}
use Rattle.report_run.specs.Images.{IsStoppedAt, TellsLayout, IsNotTold}
use Rattle.report_run.specs.Places.{larger_line}
use Rattle.report_run.specs.Plans.{dressed, map_of}
use Rattle.report_run.specs.Saving.{IsSaved, IsUnsaved}
use Rattle.report_run.specs.States.{Folder, State}

-- ---- the bytes of a region

-- so many bytes from a place on, which the memory has
pub record IsHeld (place size : ℕ) (holds : Option (List ℕ)) (bytes : List ℕ) : Type 0 where
  pub within : IfSome holds (λ memory. place + size ≤ length memory)
  pub are : IfSome holds (λ memory. bytes ≡ take size (drop place memory))

pub record IsBeyond (place size has : ℕ) (holds : Option (List ℕ)) : Type 0 where
  pub beyond : has < place + size
  pub sized : IfSome holds (λ memory. has ≡ length memory)

-- memory ran out, it could not be read, or it ends before the region does; a read failed only if that is told
abbrev pub IsUnheld : ℕ → ℕ → Option (List ℕ) → ℕ → ℕ → Failure → Type 0
IsUnheld place size holds before now Memory = now ≡ before
IsUnheld place size holds before now Unread = Rose before now
IsUnheld place size holds before now (Beyond has needed from) =
    (now ≡ before) × (needed ≡ size) × (from ≡ place) × IsBeyond place size has holds
IsUnheld place size holds before now other = ⊥

-- ---- the report of those bytes, and the records saved

pub record IsPlaceDone (asked : Asked) (plan : Plan) (name : List ℕ) (place : ℕ) (holds given now : Option (List ℕ))
    (made made_now : Folder) : Type 0 where
  pub bytes : List ℕ
  pub held : IsHeld place plan.mem holds bytes
  pub report : ReportHeld
  pub reported : IsReported asked.format name plan (Some bytes) given now report
  pub saved : IsSaved asked.saves report made made_now

-- there were no such bytes: nothing was given out
pub record IsPlaceUnheld (plan : Plan) (place : ℕ) (holds : Option (List ℕ)) (read_before read_now : ℕ)
    (given now : Option (List ℕ)) (put_before put_now : ℕ) (made made_now : Folder) (why : Failure) : Type 0 where
  pub cause : IsUnheld place plan.mem holds read_before read_now why
  pub unput : now ≡ given
  pub no_put_fault : put_now ≡ put_before
  pub unmade : made_now ≡ made

-- or the report stopped: no file was made
pub record IsPlaceStopped (asked : Asked) (plan : Plan) (name : List ℕ) (place : ℕ) (holds : Option (List ℕ))
    (read_before read_now : ℕ) (given now : Option (List ℕ)) (put_before put_now : ℕ) (made made_now : Folder)
    (why : Failure) : Type 0 where
  pub bytes : List ℕ
  pub held : IsHeld place plan.mem holds bytes
  pub no_read_fault : read_now ≡ read_before
  pub cause : IsStoppedAt asked.format name plan bytes given now put_before put_now why
  pub unmade : made_now ≡ made

-- or its records were not saved
pub record IsPlaceUnkept (asked : Asked) (plan : Plan) (name : List ℕ) (place : ℕ) (holds : Option (List ℕ))
    (read_before read_now : ℕ) (given now : Option (List ℕ)) (put_before put_now : ℕ) (made made_now : Folder)
    (why : Failure) : Type 0 where
  pub bytes : List ℕ
  pub held : IsHeld place plan.mem holds bytes
  pub no_read_fault : read_now ≡ read_before
  pub report : ReportHeld
  pub reported : IsReported asked.format name plan (Some bytes) given now report
  pub no_put_fault : put_now ≡ put_before
  pub cause : IsUnsaved asked.saves report made made_now why

abbrev pub IsPlaceUndone : Asked → Plan → List ℕ → ℕ → Option (List ℕ) → ℕ → ℕ → Option (List ℕ) → Option (List ℕ)
    → ℕ → ℕ → Folder → Folder → Failure → Type 0
IsPlaceUndone asked plan name place holds read_before read_now given now put_before put_now made made_now why =
    IsPlaceUnheld plan place holds read_before read_now given now put_before put_now made made_now why
    ⊎ (IsPlaceStopped asked plan name place holds read_before read_now given now put_before put_now made made_now why
    ⊎ IsPlaceUnkept asked plan name place holds read_before read_now given now put_before put_now made made_now why)

-- ---- a region that was found: its report, and then the lines on it

-- the lines on its layout, and a larger size that explains as much
pub record AreRegionLines (name : List ℕ) (region : Region) (lines : List ℕ) : Type 0 where
  pub taken : List ℕ
  pub is_taken : IsTakenHint name region.found.candidate.mem region.found taken
  pub are : lines ≡ taken ++ larger_line region.larger

-- the plan of its layout, with the lines and the functions that are asked for
pub record IsRegionPlan (asked : Asked) (found : Found) (plan : Plan) : Type 0 where
  pub base : Plan
  pub laid : IsLaid (params_of found.candidate) base
  pub is : plan ≡ dressed base asked.lines (map_of asked.map)

pub record IsRegionTold (asked : Asked) (name : List ℕ) (region : Region) (told : RegionTold) : Type 0 where
  pub lines : AreRegionLines name region (string_bytes told.lines)
  pub plan : IsRegionPlan asked region.found told.plan

pub record IsRegionDone (asked : Asked) (name : List ℕ) (region : Region) (holds : Option (List ℕ)) (a b : State)
    : Type 0 where
  pub told : RegionTold
  pub is_told : IsRegionTold asked name region told
  pub between : Option (List ℕ)
  pub done : IsPlaceDone asked told.plan name region.place holds a.out between a.files b.files
  pub lines : TellsLayout asked.format (string_bytes told.lines) between b.out a.errors b.errors
  pub no_fault : b.out_faults ≡ a.out_faults

-- memory ran out before
pub record IsRegionUntold (read_before read_now : ℕ) (a b : State) (why : Failure) : Type 0 where
  pub why_is : why ≡ Memory
  pub no_read_fault : read_now ≡ read_before
  pub same : b ≡ a

-- or the lines failed, behind what was done
pub record IsRegionCut (asked : Asked) (name : List ℕ) (region : Region) (holds : Option (List ℕ))
    (read_before read_now : ℕ) (a b : State) (why : Failure) : Type 0 where
  pub told : RegionTold
  pub is_told : IsRegionTold asked name region told
  pub no_read_fault : read_now ≡ read_before
  pub between : Option (List ℕ)
  pub done : IsPlaceDone asked told.plan name region.place holds a.out between a.files b.files
  pub cause : IsNotTold asked.format (string_bytes told.lines) between b.out a.out_faults b.out_faults a.errors b.errors
      why

-- or that was not done
pub record IsRegionStopped (asked : Asked) (name : List ℕ) (region : Region) (holds : Option (List ℕ))
    (read_before read_now : ℕ) (a b : State) (why : Failure) : Type 0 where
  pub told : RegionTold
  pub is_told : IsRegionTold asked name region told
  pub cause : IsPlaceUndone asked told.plan name region.place holds read_before read_now a.out b.out a.out_faults
      b.out_faults a.files b.files why
  pub silent : b.errors ≡ a.errors

abbrev pub IsRegionUndone : Asked → List ℕ → Region → Option (List ℕ) → ℕ → ℕ → State → State → Failure → Type 0
IsRegionUndone asked name region holds read_before read_now a b why =
    IsRegionUntold read_before read_now a b why
    ⊎ (IsRegionCut asked name region holds read_before read_now a b why
    ⊎ IsRegionStopped asked name region holds read_before read_now a b why)
