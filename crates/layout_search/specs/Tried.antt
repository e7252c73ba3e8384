-- How far a search has come
use Rattle.std.specs.Prelude.{◌≡◌, ◌≢◌, ℕ, ◌^◌, ◌<◌, ◌≤◌, nat_le, Bool, true, false, if◌then◌else◌, List, length}
use Rattle.std.specs.Prelude.{Option, None, Some}
use Rattle.layout_spec.specs.declared.Candidate.{Candidate}
use Rattle.layout_spec.specs.declared.Known.{Known}
use Rattle.layout_spec.specs.Laid.{zones_of}
use Rattle.layout_spec.specs.Marks.{marks}
use Rattle.layout_spec.specs.Family.{is_of_family, is_one_of, tags_for}
use Rattle.layout_spec.specs.Order.{faults, tally_of, key, is_before}
use Rattle.layout_search.specs.Levels.{Over}
use Rattle.layout_search.specs.Walked.{OverBefore, is_walked, all_levels}
use Rattle.layout_search.specs.declared.levels.Reached.{Reached}
use Rattle.layout_search.specs.declared.levels.Level.{Level}
use Rattle.layout_search.specs.declared.progress.Best.{Best}
use Rattle.layout_search.specs.declared.progress.Progress.{Progress}
use Rattle.layout_search.specs.declared.progress.Aim.{Aim}
use Rattle.layout_search.specs.declared.progress.Effort.TheVariants.{First, All}

-- an aim for this image
pub record IsAim (image : List ℕ) (aim : Aim) : Type 0 where
  pub marks_are : aim.marks ≡ marks image
  pub few : aim.marks < 2 ^ 63
  pub limit : aim.limit < 2 ^ 63

-- whether a key is before that of the best so far; before none is each
abbrev pub is_ahead : List ℕ → Option Best → Bool
is_ahead k None = true
is_ahead k (Some b) = is_before k b.key

-- the best so far is of the family, with its key, and not the one that is left out
pub record IsKept (known : Known) (image : List ℕ) (besides : Option Candidate) (b : Best) : Type 0 where
  pub of_family : is_of_family known image b.candidate ≡ true
  pub tally_is : b.tally ≡ tally_of image b.candidate
  pub key_is : b.key ≡ key image b.candidate
  pub other : besides ≢ Some b.candidate

abbrev pub IsSound : Known → List ℕ → Option Candidate → Option Best → Type 0
IsSound known image besides None = Unit {0}
IsSound known image besides (Some b) = IsKept known image besides b

-- nothing is lost: what was not ahead is not ahead, and no work comes back. Where all are tried the work is not
-- counted, and where the first layout is wanted it ends with that alone
pub record Advances (old new : Progress) : Type 0 where
  pub best : (k : List ℕ) → is_ahead k old.best ≡ false → is_ahead k new.best ≡ false
  pub some : new.best ≡ None → old.best ≡ None
  pub effort : new.effort ≡ old.effort
  pub work : new.work ≤ old.work
  pub all : old.effort ≡ All → new.work ≡ old.work
  pub first : old.effort ≡ First → new.best ≡ None → new.work ≡ old.work

-- the candidate is not ahead of the best, if it is looked for
pub record IsSettled (known : Known) (image : List ℕ) (aim : Aim) (c : Candidate) (s : Progress) : Type 0 where
  pub settled : is_of_family known image c ≡ true → faults image (zones_of c) ≤ aim.limit
      → aim.besides ≢ Some c → is_ahead (key image c) s.best ≡ false

-- so is the candidate with each tag of the family
pub record TagsSettled (known : Known) (image : List ℕ) (aim : Aim) (s : Progress) (c : Candidate) : Type 0 where
  pub all : (t : ℕ) → is_one_of t (tags_for known image c) ≡ true
      → IsSettled known image aim (record c { tag = t }) s

-- so are those with each value of these words, and each tag
abbrev pub SettledOver : Known → List ℕ → Aim → List Level → Candidate → Progress → Type 0
SettledOver known image aim levels c s = Over known (length image) levels (TagsSettled known image aim s) c

-- so are those that the walk came by
abbrev pub SettledBefore : Known → List ℕ → Aim → List Level → Candidate → Progress → Reached → Type 0
SettledBefore known image aim levels c s r = OverBefore known (length image) levels (TagsSettled known image aim s) c r

-- of the layouts that the walk came by, none with at most so many faults is ahead of the best
abbrev pub IsBestSoFar : Known → List ℕ → Progress → Type 0
IsBestSoFar known image s =
    (d : Candidate) → is_of_family known image d ≡ true → is_walked known (length image) all_levels s.reached d ≡ true
    → faults image (zones_of d) ≤ s.limit → is_ahead (key image d) s.best ≡ false

-- the best has at most so many faults
abbrev pub HasFew : ℕ → Option Best → Type 0
HasFew limit None = ⊥
HasFew limit (Some b) = b.tally.faults ≤ limit

-- the best, if there is one, has more
abbrev pub HasMore : ℕ → Option Best → Type 0
HasMore limit None = Unit {0}
HasMore limit (Some b) = limit < b.tally.faults

-- the best, if it has at most so many faults
abbrev pub with_few : ℕ → Option Best → Option Best
with_few limit None = None
with_few limit (Some b) = if nat_le b.tally.faults limit then Some b else None
