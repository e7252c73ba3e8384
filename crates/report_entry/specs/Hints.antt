-- The lines on a layout that was looked for
use Rattle.std.specs.Prelude.{◌≡◌, ◌↔◌, ℕ, Bool, true, false, IsTrue, ◌==◌, if◌then◌else◌, List, [], ◌∷◌, ◌++◌, length}
use Rattle.std.specs.Prelude.{slice_get, codes, decimal, Option, Some, None, Result, Ok, Err}
use Rattle.zone_spec.specs.declared.Zone.{Zone}
use Rattle.layout_spec.specs.declared.Candidate.{Candidate}
use Rattle.zone_spec.specs.declared.params.LayoutFault.{LayoutFault}
use Rattle.zone_spec.specs.Layout.{layout_of}
use Rattle.layout_spec.specs.Laid.{params_of}
use Rattle.layout_search.specs.declared.searching.Found.{Found}
use Rattle.report_tool.specs.LayoutWords.{layout_words}

-- ---- a layout that is taken

abbrev pub faults_text : ℕ → List ℕ
faults_text faults =
    if faults == 0 then []
    else codes " with " ++ decimal faults ++ (if faults == 1 then codes " fault" else codes " faults")

unfoldable pub found_line : List ℕ → ℕ → ℕ → List ℕ → List ℕ
found_line name size faults words =
    name ++ codes ": " ++ decimal size ++ codes " bytes; layout found" ++ faults_text faults ++ codes ": " ++ words
    ++ 10 ∷ []

-- zones that lie in the same places
pub record LiesAs (one other : Zone) : Type 0 where
  pub at : one.at ≡ other.at
  pub size : one.size ≡ other.size

pub record LieAlike (one other : List Zone) : Type 0 where
  pub as_many : length one ≡ length other
  pub each : (k : ℕ) (z w : Zone) → slice_get one k ≡ Some z → slice_get other k ≡ Some w → LiesAs z w

abbrev pub AreAlike : Result (List Zone) LayoutFault → Result (List Zone) LayoutFault → Type 0
AreAlike (Ok one) (Ok other) = LieAlike one other
AreAlike (Ok one) (Err fault) = ⊥
AreAlike (Err fault) other = ⊥

abbrev pub rival_front : Bool → List ℕ
rival_front true = codes "zone kinds are a best guess; also possible: "
rival_front false = codes "another layout explains as much: "

unfoldable pub rival_text : Bool → List ℕ → List ℕ
rival_text alike words = rival_front alike ++ words ++ 10 ∷ []

-- the line on another layout that explains as much
pub record HasRivalLine (c rival : Candidate) (size : ℕ) (line : List ℕ) : Type 0 where
  pub alike : Bool
  pub is_alike : IsTrue alike ↔ AreAlike (layout_of (params_of c)) (layout_of (params_of rival))
  pub is : line ≡ rival_text alike (layout_words rival size)

abbrev pub IsRivalLine : Candidate → Option Candidate → ℕ → List ℕ → Type 0
IsRivalLine c None size line = line ≡ []
IsRivalLine c (Some rival) size line = HasRivalLine c rival size line

-- the search ended before all layouts were tried
abbrev pub untried_line : Bool → List ℕ
untried_line whole =
    if whole then [] else codes "not all layouts were tried; another may explain it better" ++ 10 ∷ []

pub record IsTakenHint (name : List ℕ) (size : ℕ) (f : Found) (hint : List ℕ) : Type 0 where
  pub rival : List ℕ
  pub is_rival : IsRivalLine f.candidate f.rival size rival
  pub is : hint
      ≡ found_line name size f.tally.faults (layout_words f.candidate size) ++ untried_line f.whole ++ rival

-- ---- the best layout, where none is taken

unfoldable pub best_hint : List ℕ → ℕ → Found → List ℕ
best_hint name size f =
    name ++ codes ": best layout: " ++ layout_words f.candidate size ++ codes " (" ++ decimal f.tally.fits
    ++ codes " of " ++ decimal f.tally.zones ++ codes " zones fit, faults: " ++ decimal f.tally.faults
    ++ 41 ∷ 10 ∷ []
