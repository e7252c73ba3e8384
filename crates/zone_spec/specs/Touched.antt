-- The blocks that a call touches, and their runs
use Rattle.std.specs.Prelude.{ℕ, ◌+◌, if◌then◌else◌, ◌==◌, List, [], ◌∷◌, ◌++◌, length}
use Rattle.zone_spec.specs.declared.Zone.{Zone}
use Rattle.zone_spec.specs.Stages.{Stage, Run, blocks_met}

-- the blocks that the data stores of the stages meet
unfoldable pub touched_by : Zone → List Stage → List ℕ
touched_by z [] = []
touched_by z (Run place bytes ∷ gs) = blocks_met z place (length bytes) ++ touched_by z gs
touched_by z (g ∷ gs) = touched_by z gs

-- a number put before the runs of higher numbers: it joins the first run where that begins with the next
-- number
abbrev pub before_runs : ℕ → List (ℕ × ℕ) → List (ℕ × ℕ)
before_runs b [] = (b, b) ∷ []
before_runs b (run ∷ runs) = if b + 1 == run.0 then (b, run.1) ∷ runs else (b, b) ∷ run ∷ runs

-- rising numbers as the first and last of each run
unfoldable pub runs_of : List ℕ → List (ℕ × ℕ)
runs_of [] = []
runs_of (b ∷ bs) = before_runs b (runs_of bs)
