-- Runs of blocks that cover a stretch of them
use Rattle.std.specs.Prelude.{◌≡◌, ℕ, ◌-◌, ◌<◌, ⊤, false, List, [], ◌∷◌, flat_map, replicate}
use Rattle.zone_spec.specs.declared.PartState.{PartState}
use Rattle.report_html.specs.Pictures.{Run, is_alike}

-- a run does not read as the first of those after it
abbrev pub IsUnlikeNext : Run → List Run → Type 0
IsUnlikeNext r [] = ⊤
IsUnlikeNext r (next ∷ rs) = is_alike r.state next.state ≡ false

-- runs one after another from one block up to another: none is empty, and neighbours read differently
abbrev pub Cover : ℕ → ℕ → List Run → Type 0
Cover from to [] = from ≡ to
Cover from to (r ∷ rs) = (r.from ≡ from) × (from < r.to) × IsUnlikeNext r rs × Cover r.to to rs

-- the states of the blocks of runs
abbrev pub states_of : List Run → List PartState
states_of rs = flat_map (λ (r : Run). replicate (r.to - r.from) r.state) rs
