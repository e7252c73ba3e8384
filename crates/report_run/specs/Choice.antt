-- Which regions of a whole memory are reported, and why none is
use Rattle.std.specs.Prelude.{◌≡◌, ◌⊎◌, ⊤, ℕ, ◌<◌, nat_lt, Bool, true, false, ◌||◌, ◌&&◌, List, [], ◌∷◌, length}
use Rattle.std.specs.Prelude.{Option, Some, None, IfSome, string_bytes}
use Rattle.outside.specs.Outside.{Rose}
use Rattle.memory_spec.specs.Pages.{marked}
use Rattle.layout_spec.specs.declared.Known.{Known}
use Rattle.found_regions.specs.declared.region.Region.{Region}
use Rattle.found_regions.specs.declared.search.Finding.{Finding}
use Rattle.found_regions.specs.Regions.{IsRegionAt}
use Rattle.found_regions.specs.Search.{AreFindings}
use Rattle.report_tool.specs.declared.showing.Format.{Format}
use Rattle.report_tool.specs.declared.showing.Format.TheVariants.{Html}
use Rattle.report_run.specs.declared.plans.Asked.{Asked}
use Rattle.report_run.specs.declared.choosing.Survey.{Survey}
use Rattle.report_run.specs.declared.failures.Failure.{Failure}
use Rattle.report_run.specs.declared.failures.Failure.TheVariants.{Memory, Unread, NotThere, NoRegion, Several}
use Rattle.report_run.specs.Failures.{IsUnread}
use Rattle.report_run.specs.Messages.{Seen, IsTold}
use Rattle.report_run.specs.Places.{places_text, finding_lines, regions_in}

-- ---- the region at a place that is named; a read failed only if that is told

pub record IsThere (known : Known) (place : ℕ) (holds : Option (List ℕ)) (regions : List Region) : Type 0 where
  pub region : Region
  pub is : regions ≡ region ∷ []
  pub at : IfSome holds (λ memory. IsRegionAt known memory place (Some region))

abbrev pub IsNotThere : Known → ℕ → Option (List ℕ) → ℕ → ℕ → Failure → Type 0
IsNotThere known place holds before now Memory = now ≡ before
IsNotThere known place holds before now Unread = Rose before now
IsNotThere known place holds before now NotThere =
    (now ≡ before) × IfSome holds (λ memory. IsRegionAt known memory place None)
IsNotThere known place holds before now other = ⊥

-- ---- all regions that are found

abbrev pub is_html : Format → Bool
is_html Html = true
is_html other = false

-- a page shows one region, and the records of one are saved: of several one must be chosen
abbrev pub must_choose : Asked → List Region → Bool
must_choose asked regions = (is_html asked.format || asked.saves) && nat_lt 1 (length regions)

pub record AreTaken (asked : Asked) (regions : List Region) : Type 0 where
  pub some : 0 < length regions
  pub none_chosen : must_choose asked regions ≡ false

-- there is none, one must be chosen, or memory ran out
abbrev pub AreRefused : Asked → ℕ → List Region → Failure → Type 0
AreRefused asked base regions NoRegion = length regions ≡ 0
AreRefused asked base regions (Several places) =
    (must_choose asked regions ≡ true) × (string_bytes places ≡ places_text base regions)
AreRefused asked base regions Memory = ⊤
AreRefused asked base regions other = ⊥

-- what was found, with the lines on what is no region
pub record IsFoundBy (known : Known) (path : List ℕ) (base : ℕ) (holds : Option (List ℕ)) (survey : Survey)
    : Type 0 where
  pub findings : List Finding
  pub found : IfSome holds (λ memory. AreFindings known memory (marked memory) findings)
  pub regions : survey.regions.items ≡ regions_in findings
  pub lines : string_bytes survey.lines ≡ finding_lines path base findings

-- they were told
pub record IsSearched (known : Known) (path : List ℕ) (base : ℕ) (holds : Option (List ℕ)) (regions : List Region)
    (a b : Seen) : Type 0 where
  pub survey : Survey
  pub found : IsFoundBy known path base holds survey
  pub regions_are : regions ≡ survey.regions.items
  pub told : IsTold (string_bytes survey.lines) a b

pub record AreFound (asked : Asked) (known : Known) (path : List ℕ) (base : ℕ) (holds : Option (List ℕ)) (a b : Seen)
    (regions : List Region) : Type 0 where
  pub searched : IsSearched known path base holds regions a b
  pub taken : AreTaken asked regions

-- memory ran out, or it could not be read: nothing was told
pub record IsUnsearched (before now : ℕ) (a b : Seen) (why : Failure) : Type 0 where
  pub cause : IsUnread before now why
  pub silent : b ≡ a

-- or the regions that were found are not reported
pub record AreUntaken (asked : Asked) (known : Known) (path : List ℕ) (base : ℕ) (holds : Option (List ℕ))
    (before now : ℕ) (a b : Seen) (why : Failure) : Type 0 where
  pub regions : List Region
  pub searched : IsSearched known path base holds regions a b
  pub no_read_fault : now ≡ before
  pub refused : AreRefused asked base regions why

abbrev pub AreNotFound : Asked → Known → List ℕ → ℕ → Option (List ℕ) → ℕ → ℕ → Seen → Seen → Failure → Type 0
AreNotFound asked known path base holds before now a b why =
    IsUnsearched before now a b why ⊎ AreUntaken asked known path base holds before now a b why

-- ---- the region at the place, if one is named, or all

pub record IsOneThere (known : Known) (place : ℕ) (holds : Option (List ℕ)) (a b : Seen) (regions : List Region)
    : Type 0 where
  pub there : IsThere known place holds regions
  pub silent : b ≡ a

pub record IsNoneThere (known : Known) (place : ℕ) (holds : Option (List ℕ)) (before now : ℕ) (a b : Seen)
    (why : Failure) : Type 0 where
  pub cause : IsNotThere known place holds before now why
  pub silent : b ≡ a

abbrev pub AreChosen : Option ℕ → Asked → Known → List ℕ → ℕ → Option (List ℕ) → Seen → Seen → List Region → Type 0
AreChosen None asked known path base holds a b regions = AreFound asked known path base holds a b regions
AreChosen (Some place) asked known path base holds a b regions = IsOneThere known place holds a b regions

abbrev pub AreUnchosen : Option ℕ → Asked → Known → List ℕ → ℕ → Option (List ℕ) → ℕ → ℕ → Seen → Seen → Failure
    → Type 0
AreUnchosen None asked known path base holds before now a b why =
    AreNotFound asked known path base holds before now a b why
AreUnchosen (Some place) asked known path base holds before now a b why =
    IsNoneThere known place holds before now a b why
