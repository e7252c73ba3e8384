-- What a flight tells of its whole call
use Rattle.std.specs.Prelude.{ℕ, ◌-◌, max, if◌then◌else◌, nat_lt, ◌==◌, List, [], ◌∷◌, filter, sum_by}
use Rattle.std.specs.List.{range_with_len, list_any}
use Rattle.zone_spec.specs.declared.Pair.{Pair}
use Rattle.zone_spec.specs.Stages.{stage_count}
use Rattle.zone_spec.specs.Calls.{call_stages}
use Rattle.zone_spec.specs.Pairs.{pairs_from, pair_of}
use Rattle.zone_spec.specs.Touched.{touched_by, runs_of}
use Rattle.store_steps.specs.Flying.{Flying}

-- how many stores the whole call has
abbrev pub total_of : Flying → ℕ
total_of f = sum_by (stage_count f.zone) (call_stages f.zone f.words f.call)

-- the words before it, and after each store of a start or size word
abbrev pub pairs_of : Flying → List Pair
pairs_of f = pairs_from (pair_of f.words) (call_stages f.zone f.words f.call)

-- the touched blocks, as the first and last of each run
abbrev pub touched_runs : Flying → List (ℕ × ℕ)
touched_runs f =
    let touched = touched_by f.zone (call_stages f.zone f.words f.call) in
    runs_of (filter (λ b. list_any (λ c. c == b) touched) (range_with_len 0 f.zone.blocks))

-- the runs of the blocks from a up to e and of those below m
abbrev pub runs_between : ℕ → ℕ → ℕ → List (ℕ × ℕ)
runs_between a e m =
    if a == e then (if m == 0 then [] else (0, m - 1) ∷ [])
    else (if m == 0 then (a, e - 1) ∷ []
    else (if nat_lt m a then (0, m - 1) ∷ (a, e - 1) ∷ [] else (0, max e m - 1) ∷ []))
