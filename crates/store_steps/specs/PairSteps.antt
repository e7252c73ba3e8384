-- The pairs that an append goes through, as a part of those of a call
use Rattle.std.specs.Prelude.{◌≡◌, ℕ, ◌+◌, ◌%◌, min, if◌then◌else◌, ◌==◌, List, ◌++◌, length}
use Rattle.zone_spec.specs.declared.Zone.{Zone}
use Rattle.zone_spec.specs.declared.Pair.{Pair}
use Rattle.zone_spec.specs.Stages.{Stage}
use Rattle.zone_spec.specs.Calls.{append_stages}
use Rattle.zone_spec.specs.Pairs.{pairs_from}

-- the pair after an append of n bytes
abbrev pub pair_after : Pair → ℕ → ℕ → Pair
pair_after p cap n = if n == 0 then p else record { start = (p.start + n) % cap; size = min cap (p.size + n) }

-- the pairs before an append's stores are added to others
abbrev pub AppendsPairs : List Pair → List Pair → Pair → Pair → ℕ → ℕ → Type 0
AppendsPairs old new p last cap n =
    (z : Zone) → z.cap ≡ cap → (bytes : List ℕ) → length bytes ≡ n → (more : List Stage)
    → new ++ pairs_from last more ≡ old ++ pairs_from p (append_stages z p.start p.size bytes ++ more)
