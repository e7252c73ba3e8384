-- Rows of zones that can be laid out one behind another
use Rattle.std.specs.Prelude.{ℕ, ◌+◌, ◌*◌, ◌^◌, ◌<◌, ◌≤◌, List, [], ◌∷◌}
use Rattle.std.specs.List.{All}
use Rattle.zone_spec.specs.declared.params.Row.{Row}

-- what a row's zones take together
abbrev pub taken : Row → ℕ
taken row = row.count * row.size

-- what the zones of all rows take together
abbrev pub all_taken : List Row → ℕ
all_taken [] = 0
all_taken (row ∷ rows) = taken row + all_taken rows

-- no zone and no number of zones is large, and all zones take at most 2^24 bytes
pub record AreSmall (rows : List Row) : Type 0 where
  pub sizes : All (λ (row : Row). row.size ≤ 2 ^ 24) rows
  pub counts : All (λ (row : Row). row.count < 2 ^ 32) rows
  pub total : all_taken rows ≤ 2 ^ 24
