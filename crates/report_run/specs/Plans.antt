-- The plan by which an image is read whose layout is looked for
use Rattle.std.specs.Prelude.{◌≡◌, ℕ, Bool, true, false, List, take, length, Option, Some, None, IfSome}
use Rattle.std.specs.Global.{Vec}
use Rattle.outside.specs.Outside.{Rose}
use Rattle.zone_spec.specs.Numbers.{most_memory}
use Rattle.layout_spec.specs.declared.Known.{Known}
use Rattle.layout_search.specs.declared.searching.Found.{Found}
use Rattle.layout_search.specs.Answers.{IsEmpty, IsAnswer}
use Rattle.report_tool.specs.declared.plan.Plan.{Plan}
use Rattle.report_tool.specs.declared.showing.Format.{Format}
use Rattle.report_tool.specs.declared.showing.Format.TheVariants.{Text, Json, Html, Brief}
use Rattle.report_entry.specs.declared.reports.HintedPlan.{HintedPlan}
use Rattle.report_entry.specs.declared.reports.Refusal.{Refusal}
use Rattle.report_entry.specs.declared.reports.Refusal.TheVariants.{Unexplained as NotTaken, Unfinished as NotEnded}
use Rattle.report_entry.specs.Reports.{IsPlanFound, IsNotTaken}
use Rattle.report_run.specs.declared.plans.Asked.{Asked}
use Rattle.report_run.specs.declared.failures.Failure.{Failure}
use Rattle.report_run.specs.declared.failures.Failure.TheVariants.{Memory, Unread, NotFound, Unexplained, Unfinished}

-- the bytes of a map, if there is one
abbrev pub map_of : Option (Vec ℕ) → Option (List ℕ)
map_of None = None
map_of (Some map) = Some map.items

-- a text of a folder's files has one line for each
abbrev pub format_for : Bool → Format → Format
format_for true Text = Brief
format_for true Json = Json
format_for true Html = Html
format_for true Brief = Brief
format_for false format = format

-- a plan with so many lines, and with the functions of this map
abbrev pub dressed : Plan → ℕ → Option (List ℕ) → Plan
dressed plan lines None = record plan { lines = lines }
dressed plan lines (Some map) = record plan { symbols = map; lines = lines }

abbrev pub untaken_failure : Refusal → Failure
untaken_failure (NotTaken best) = Unexplained best
untaken_failure (NotEnded best) = Unfinished best
untaken_failure other = Memory

-- the layout that the image's first 16 MiB show, and its size
pub record IsShown (known : Known) (image : List ℕ) (found : Found) (size : ℕ) : Type 0 where
  pub answer : IsAnswer known (take most_memory image) found
  pub sized : size ≡ length image

-- it is taken, with the lines on it
pub record IsSoughtPlan (known : Known) (path : List ℕ) (holds : Option (List ℕ)) (told : HintedPlan) : Type 0 where
  pub found : Found
  pub size : ℕ
  pub shown : IfSome holds (λ image. IsShown known image found size)
  pub plan : IsPlanFound path size found told

-- the same, as it is asked for
pub record IsAskedPlan (asked : Asked) (known : Known) (path : List ℕ) (holds : Option (List ℕ)) (told : HintedPlan)
    : Type 0 where
  pub base : HintedPlan
  pub is_base : IsSoughtPlan known path holds base
  pub plan : told.plan ≡ dressed base.plan asked.lines (map_of asked.map)
  pub hint : told.hint ≡ base.hint

-- it is not taken
pub record IsUntakenBy (known : Known) (path : List ℕ) (holds : Option (List ℕ)) (why : Refusal) : Type 0 where
  pub found : Found
  pub size : ℕ
  pub shown : IfSome holds (λ image. IsShown known image found size)
  pub untaken : IsNotTaken path size found why

-- why there is no plan, by what the image holds and its count of faults before and now; a read failed only if that is
-- told
abbrev pub IsNotSought : Known → List ℕ → Option (List ℕ) → ℕ → ℕ → Failure → Type 0
IsNotSought known path holds before now Memory = now ≡ before
IsNotSought known path holds before now Unread = Rose before now
IsNotSought known path holds before now NotFound =
    (now ≡ before) × IfSome holds (λ image. IsEmpty known (take most_memory image))
IsNotSought known path holds before now (Unexplained best) =
    (now ≡ before) × IsUntakenBy known path holds (NotTaken best)
IsNotSought known path holds before now (Unfinished best) =
    (now ≡ before) × IsUntakenBy known path holds (NotEnded best)
IsNotSought known path holds before now other = ⊥
