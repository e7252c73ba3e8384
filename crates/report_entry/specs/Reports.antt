-- The report of an image in memory, and why there is none
use Rattle.std.specs.Prelude.{◌≡◌, ◌⊎◌, ℕ, ⊤, ◌<◌, true, false, List, [], length, take, string_bytes, Some, None}
use Rattle.std.specs.Prelude.{Ok, Err}
use Rattle.std.specs.declared.string.String.{String}
use Rattle.std.specs.declared.alloc.Global.{Global}
use Rattle.grammar_spec.specs.declared.faults.ParamFault.{ParamFault}
use Rattle.zone_spec.specs.Numbers.{most_memory}
use Rattle.layout_spec.specs.declared.Known.{Known}
use Rattle.layout_spec.specs.Laid.{params_of}
use Rattle.layout_search.specs.declared.searching.Found.{Found}
use Rattle.layout_search.specs.Answers.{IsEmpty, IsAnswer}
use Rattle.region_report.specs.Reports.{ReportHeld}
use Rattle.report_tool.specs.declared.plan.Plan.{Plan}
use Rattle.report_tool.specs.declared.showing.Format.{Format}
use Rattle.report_tool.specs.Plans.{IsLaid}
use Rattle.report_tool.specs.Images.{IsReported}
use Rattle.storage_words.specs.declared.Storages.{Storages}
use Rattle.storage_report.specs.declared.storage.HeldStorage.{HeldStorage}
use Rattle.storage_report.specs.Held.{IsLookedAt}
use Rattle.report_entry.specs.declared.laying.Layouts.{Layouts}
use Rattle.report_entry.specs.declared.laying.Layouts.TheVariants.{Given, Sought}
use Rattle.report_entry.specs.declared.laying.NoLayouts.TheVariants.{Word}
use Rattle.report_entry.specs.declared.reports.HintedPlan.{HintedPlan}
use Rattle.report_entry.specs.declared.reports.Reported.{Reported}
use Rattle.report_entry.specs.declared.reports.Refusal.{Refusal}
use Rattle.report_entry.specs.declared.reports.Refusal.TheVariants.{NoLayout, Memory, Short, NotFound, Unexplained}
use Rattle.report_entry.specs.declared.reports.Refusal.TheVariants.{Unfinished, Undivided}
use Rattle.report_entry.specs.Layouts.{IsLayout, IsNoLayout}
use Rattle.report_entry.specs.Storages.{storages_in, IsUnheld, IsStorageReport}
use Rattle.report_entry.specs.Hints.{IsTakenHint, best_hint}
use Rattle.report_entry.specs.Memory.{text_bytes}

-- ---- a layout that was looked for

-- why it is not taken: it does not explain the image, and all layouts were tried, or not all
abbrev pub IsUntaken : List ℕ → ℕ → Found → Refusal → Type 0
IsUntaken name size f (Unexplained hint) = (f.whole ≡ true) × (string_bytes hint ≡ best_hint name size f)
IsUntaken name size f (Unfinished hint) = (f.whole ≡ false) × (string_bytes hint ≡ best_hint name size f)
IsUntaken name size f other = ⊥

pub record IsTakenPlan (name : List ℕ) (size : ℕ) (f : Found) (told : HintedPlan) : Type 0 where
  pub laid : IsLaid (params_of f.candidate) told.plan
  pub hint : IsTakenHint name size f (string_bytes told.hint)

-- a layout that explains itself is taken, though others were not tried
pub record IsPlanFound (name : List ℕ) (size : ℕ) (f : Found) (told : HintedPlan) : Type 0 where
  pub taken : f.taken ≡ true
  pub plan : IsTakenPlan name size f told

abbrev pub IsNotTaken : List ℕ → ℕ → Found → Refusal → Type 0
IsNotTaken name size f Memory = ⊤
IsNotTaken name size f (Unexplained hint) = (f.taken ≡ false) × IsUntaken name size f (Unexplained hint)
IsNotTaken name size f (Unfinished hint) = (f.taken ≡ false) × IsUntaken name size f (Unfinished hint)
IsNotTaken name size f other = ⊥

-- the layout that the image's first 16 MiB show is taken
pub record IsFoundPlan (known : Known) (name image : List ℕ) (told : HintedPlan) : Type 0 where
  pub found : Found
  pub answer : IsAnswer known (take most_memory image) found
  pub plan : IsPlanFound name (length image) found told

-- it is not
pub record IsUntakenLayout (known : Known) (name image : List ℕ) (why : Refusal) : Type 0 where
  pub found : Found
  pub answer : IsAnswer known (take most_memory image) found
  pub why_is : IsNotTaken name (length image) found why

-- no layout agrees with what is known
pub record HasNoLayout (known : Known) (image : List ℕ) : Type 0 where
  pub empty : IsEmpty known (take most_memory image)

abbrev pub IsNotFound : Known → List ℕ → List ℕ → Refusal → Type 0
IsNotFound known name image Memory = ⊤
IsNotFound known name image NotFound = HasNoLayout known image
IsNotFound known name image (Unexplained hint) = IsUntakenLayout known name image (Unexplained hint)
IsNotFound known name image (Unfinished hint) = IsUntakenLayout known name image (Unfinished hint)
IsNotFound known name image other = ⊥

-- ---- the plan by which the image is read

pub record IsGivenPlan (plan : Plan) (told : HintedPlan) : Type 0 where
  pub plan_is : told.plan ≡ plan
  pub silent : string_bytes told.hint ≡ []

abbrev pub IsPlanOf : Layouts → List ℕ → List ℕ → HintedPlan → Type 0
IsPlanOf (Given plan) name image told = IsGivenPlan plan told
IsPlanOf (Sought known) name image told = IsFoundPlan known name image told

abbrev pub IsNotPlanned : Layouts → List ℕ → List ℕ → Refusal → Type 0
IsNotPlanned (Given plan) name image why = ⊥
IsNotPlanned (Sought known) name image why = IsNotFound known name image why

-- ---- the report of a region

-- the text is what is told of the plan, and then the report by it
pub record IsReportBy (told : HintedPlan) (format : Format) (name image : List ℕ) (r : Reported) : Type 0 where
  pub hint : r.hint ≡ length (string_bytes told.hint)
  pub report : ReportHeld
  pub reported : IsReported format name told.plan (Some image) (Some (string_bytes told.hint))
      (Some (text_bytes r.text)) report

-- the image is shorter than the plan's; or memory was wanted
abbrev pub IsNotReportedBy : HintedPlan → List ℕ → Refusal → Type 0
IsNotReportedBy told image (Short needed) = (needed ≡ told.plan.mem) × (length image < told.plan.mem)
IsNotReportedBy told image Memory = ⊤
IsNotReportedBy told image other = ⊥

pub record IsRegionReport (words : List (String Global)) (tree : List ℕ) (format : Format) (name image : List ℕ)
    (r : Reported) : Type 0 where
  pub layouts : Layouts
  pub laid : IsLayout words tree layouts
  pub told : HintedPlan
  pub planned : IsPlanOf layouts name image told
  pub reported : IsReportBy told format name image r

-- there is a layout, or one is to be looked for
pub record HasLayouts (words : List (String Global)) (tree : List ℕ) : Type 0 where
  pub layouts : Layouts
  pub laid : IsLayout words tree layouts

-- the layout is looked for, and not taken
pub record IsUnlaid (words : List (String Global)) (tree name image : List ℕ) (why : Refusal) : Type 0 where
  pub known : Known
  pub laid : IsLayout words tree (Sought known)
  pub not_found : IsNotFound known name image why

-- the image has fewer bytes than the plan needs
pub record IsShort (words : List (String Global)) (tree name image : List ℕ) (needed : ℕ) : Type 0 where
  pub layouts : Layouts
  pub laid : IsLayout words tree layouts
  pub told : HintedPlan
  pub planned : IsPlanOf layouts name image told
  pub needs : needed ≡ told.plan.mem
  pub short : length image < told.plan.mem

-- why there is none. Memory is wanted only where there is a layout, or one is to be looked for, or for it
abbrev pub IsRegionRefused : List (String Global) → List ℕ → List ℕ → List ℕ → Refusal → Type 0
IsRegionRefused words tree name image (NoLayout none) = IsNoLayout words tree none
IsRegionRefused words tree name image Memory = HasLayouts words tree
IsRegionRefused words tree name image (Short needed) = IsShort words tree name image needed
IsRegionRefused words tree name image NotFound = IsUnlaid words tree name image NotFound
IsRegionRefused words tree name image (Unexplained hint) = IsUnlaid words tree name image (Unexplained hint)
IsRegionRefused words tree name image (Unfinished hint) = IsUnlaid words tree name image (Unfinished hint)
IsRegionRefused words tree name image (Undivided fault) = ⊥

-- ---- the report of an image: of the storage that it is, or else of a region

pub record IsOfStorage (words : List (String Global)) (tree : List ℕ) (format : Format) (name image : List ℕ)
    (r : Reported) : Type 0 where
  pub storages : Storages
  pub by_words : storages_in words tree ≡ Ok storages
  pub held : HeldStorage
  pub looked : IsLookedAt storages (Some image) (Some held)
  pub reported : IsStorageReport held format name r

pub record IsOfRegion (words : List (String Global)) (tree : List ℕ) (format : Format) (name image : List ℕ)
    (r : Reported) : Type 0 where
  pub storages : Storages
  pub by_words : storages_in words tree ≡ Ok storages
  pub looked : IsLookedAt storages (Some image) None
  pub reported : IsRegionReport words tree format name image r

abbrev pub IsReportOf : List (String Global) → List ℕ → Format → List ℕ → List ℕ → Reported → Type 0
IsReportOf words tree format name image r =
    IsOfStorage words tree format name image r ⊎ IsOfRegion words tree format name image r

-- why there is none: a word that gives a size of a storage is faulty
pub record IsFaulty (words : List (String Global)) (tree : List ℕ) (why : Refusal) : Type 0 where
  pub fault : ParamFault
  pub by_words : storages_in words tree ≡ Err fault
  pub is : why ≡ NoLayout (Word fault)

-- or it is not known whether the image is a storage, or it is none
pub record IsUnseen (words : List (String Global)) (tree image : List ℕ) (why : Refusal) : Type 0 where
  pub storages : Storages
  pub by_words : storages_in words tree ≡ Ok storages
  pub unheld : IsUnheld storages image why

-- or memory ran out for the report of a storage
pub record IsUnmade (words : List (String Global)) (tree image : List ℕ) (why : Refusal) : Type 0 where
  pub storages : Storages
  pub by_words : storages_in words tree ≡ Ok storages
  pub held : HeldStorage
  pub looked : IsLookedAt storages (Some image) (Some held)
  pub is : why ≡ Memory

-- or there is none of the region
pub record IsNoRegion (words : List (String Global)) (tree name image : List ℕ) (why : Refusal) : Type 0 where
  pub storages : Storages
  pub by_words : storages_in words tree ≡ Ok storages
  pub looked : IsLookedAt storages (Some image) None
  pub cause : IsRegionRefused words tree name image why

abbrev pub IsRefused : List (String Global) → List ℕ → List ℕ → List ℕ → Refusal → Type 0
IsRefused words tree name image why =
    IsFaulty words tree why ⊎ (IsUnseen words tree image why ⊎ (IsUnmade words tree image why
    ⊎ IsNoRegion words tree name image why))
