-- The pages of a memory at which a region is looked for, one after another
use Rattle.std.specs.Prelude.{◌≡◌, ℕ, ◌+◌, ◌*◌, ◌-◌, ◌^◌, min, Bool, true, false, ◌||◌, nat_lt, nat_le, List, [], ◌∷◌}
use Rattle.std.specs.Prelude.{◌++◌, Option, Some, None}
use Rattle.layout_spec.specs.declared.Known.{Known}
use Rattle.found_regions.specs.declared.region.Region.{Region}
use Rattle.found_regions.specs.declared.search.Finding.{Finding}
use Rattle.found_regions.specs.declared.search.Finding.TheVariants.{Shown, Unexplained, Unseen}
use Rattle.found_regions.specs.Regions.{IsRegionAt}

-- what was found so far, where the last region ends, at how many pages none was found, and if no more is looked for
pub record Seen : Type 0 where
  pub findings : List Finding
  pub from : ℕ
  pub tries : ℕ
  pub is_over : Bool

abbrev pub nothing_seen : Seen
nothing_seen = record { findings = []; from = 0; tries = 0; is_over = false }

-- numbers of 64 bits stop at the largest
abbrev pub capped : ℕ → ℕ
capped n = min n (2 ^ 64 - 1)

abbrev pub place_of : ℕ → ℕ
place_of page = capped (page * 4096)

abbrev pub with_finding : Seen → Finding → Seen
with_finding seen finding = record seen { findings = seen.findings ++ finding ∷ [] }

-- a region was found at a place, or none
abbrev pub with_region : Seen → ℕ → Option Region → Seen
with_region seen place (Some region) = record {
  findings = seen.findings ++ Shown region ∷ [];
  from = capped (place + region.found.candidate.mem);
  tries = seen.tries;
  is_over = seen.is_over;
}
with_region seen place None = record {
  findings = seen.findings ++ Unexplained place ∷ [];
  from = seen.from;
  tries = seen.tries + 1;
  is_over = seen.is_over;
}

-- what stands from a place on is not looked at
abbrev pub without_rest : Seen → ℕ → Seen
without_rest seen place = record {
  findings = seen.findings ++ Unseen place ∷ [];
  from = seen.from;
  tries = seen.tries;
  is_over = true;
}

-- a page within the region before it is passed over, and each page once the search is over
abbrev pub is_passed : Seen → ℕ → Bool
is_passed seen place = seen.is_over || nat_lt place seen.from

-- at 64 pages no layout explained what stands there
abbrev pub is_spent : Seen → Bool
is_spent seen = nat_le 64 seen.tries

pub record IsLookedAt (known : Known) (memory : List ℕ) (place : ℕ) (before after : Seen) : Type 0 where
  pub region : Option Region
  pub at : IsRegionAt known memory place region
  pub is : after ≡ with_region before place region

abbrev pub StepBy : Bool → Bool → Known → List ℕ → ℕ → Seen → Seen → Type 0
StepBy true is_spent known memory place before after = after ≡ before
StepBy false true known memory place before after = after ≡ without_rest before place
StepBy false false known memory place before after = IsLookedAt known memory place before after

-- what a marked page adds
abbrev pub IsStep : Known → List ℕ → ℕ → Seen → Seen → Type 0
IsStep known memory page before after =
    StepBy (is_passed before (place_of page)) (is_spent before) known memory (place_of page) before after

-- what these pages add, in their order
unfoldable pub AreSteps : Known → List ℕ → List ℕ → Seen → Seen → Type 0
AreSteps known memory [] before after = after ≡ before
AreSteps known memory (page ∷ pages) before after =
    (middle : Seen) × IsStep known memory page before middle × AreSteps known memory pages middle after

-- what is found at these pages of a memory
pub record AreFindings (known : Known) (memory pages : List ℕ) (findings : List Finding) : Type 0 where
  pub after : Seen
  pub steps : AreSteps known memory pages nothing_seen after
  pub are : findings ≡ after.findings
