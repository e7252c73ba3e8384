-- The region that begins at a place
use Rattle.std.specs.Prelude.{◌≡◌, ℕ, Bool, true, false, ◌&&◌, nat_lt, nat_le, List, [], ◌∷◌, map, take, Option, Some}
use Rattle.std.specs.Prelude.{None}
use Rattle.std.specs.List.{AllByRecursion}
use Rattle.layout_spec.specs.declared.Known.{Known}
use Rattle.layout_search.specs.declared.searching.Found.{Found}
use Rattle.layout_search.specs.Answers.{IsSearched}
use Rattle.memory_spec.specs.Sizes.{sizes, comes_first}
use Rattle.memory_regions.specs.declared.choosing.Reading.{Reading}

-- its layout is what the search answers for so many bytes
abbrev pub IsReading : Known → List ℕ → Reading → Type 0
IsReading known bytes r = IsSearched known (take r.size bytes) r.found

-- each size that is tried was read, in order
pub record AreReadings (known : Known) (bytes : List ℕ) (readings : List Reading) : Type 0 where
  pub sizes_are : map (λ (r : Reading). r.size) readings ≡ sizes known bytes
  pub answers : AllByRecursion (IsReading known bytes) readings

-- it is taken, and all layouts were tried
abbrev pub is_explained : Option Found → Bool
is_explained None = false
is_explained (Some f) = f.taken && f.whole

-- the first of two comes before the second
abbrev pub is_first : Option Found → Option Found → Bool
is_first (Some f) (Some g) = comes_first f.tally g.tally
is_first f g = false

-- the better of the best so far and one more: the smaller one, unless the larger comes first
abbrev pub better_by : Bool → Option Reading → Reading → Option Reading
better_by false best r = best
better_by true best r = Some r

abbrev pub is_better : Option Reading → Reading → Bool
is_better None r = is_explained r.found
is_better (Some b) r = is_explained r.found && is_first r.found b.found

abbrev pub better : Option Reading → Reading → Option Reading
better best r = better_by (is_better best r) best r

-- the best of all
abbrev pub best_from : Option Reading → List Reading → Option Reading
best_from best [] = best
best_from best (r ∷ rs) = best_from (better best r) rs

-- a larger one that explains its bytes with as few faults: the two could be one region
abbrev pub has_few : Option Found → Option Found → Bool
has_few (Some f) (Some g) = nat_le f.tally.faults g.tally.faults
has_few f g = false

abbrev pub is_rival : Reading → Reading → Bool
is_rival best r = nat_lt best.size r.size && is_explained r.found && has_few r.found best.found
