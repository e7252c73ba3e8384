-- The search for the layout that an image shows, and the line on one that takes long
use Rattle.std.specs.Prelude.{◌≡◌, ◌⊎◌, ℕ, Bool, true, false, not, List, take, Option, Some, None, IfSome}
use Rattle.zone_spec.specs.Numbers.{most_memory}
use Rattle.layout_spec.specs.declared.Known.{Known}
use Rattle.layout_search.specs.declared.searching.Found.{Found}
use Rattle.layout_search.specs.Answers.{IsSearched}
use Rattle.report_run.specs.Messages.{Seen, AreTold, slow_line}

abbrev pub is_unfinished : Option Found → Bool
is_unfinished None = false
is_unfinished (Some found) = not found.whole

abbrev pub IsSlowTold : Bool → List ℕ → Seen → Seen → Type 0
IsSlowTold true path a b = AreTold (slow_line path) a b
IsSlowTold false path a b = b ≡ a

-- a search by a little work is not at its end: that is told, once, and the search begins again with more; nothing is
-- told if it is
pub record IsLook (known : Known) (path image : List ℕ) (a b : Seen) : Type 0 where
  pub few : Option Found
  pub by_little : IsSearched known image few
  pub told : IsSlowTold (is_unfinished few) path a b

-- a search that fails has told no more
abbrev pub MayLookAt : Known → List ℕ → List ℕ → Seen → Seen → Type 0
MayLookAt known path image a b = (b ≡ a) ⊎ IsLook known path image a b

-- the same of what an image holds, by its front
pub record IsLooking (known : Known) (path : List ℕ) (holds : Option (List ℕ)) (a b : Seen) : Type 0 where
  pub front : List ℕ
  pub is_front : IfSome holds (λ image. front ≡ take most_memory image)
  pub look : IsLook known path front a b

abbrev pub MayLook : Known → List ℕ → Option (List ℕ) → Seen → Seen → Type 0
MayLook known path holds a b = (b ≡ a) ⊎ IsLooking known path holds a b
