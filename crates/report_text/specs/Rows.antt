-- Rows that are cut out of lines
use Rattle.std.specs.Prelude.{◌≡◌, ℕ, List, map, flat_map, sum_by}
use Rattle.report_text.specs.Tails.{columns}

-- the columns that a row takes at most
abbrev pub width : List ℕ → ℕ
width row = sum_by columns row

-- lists end to end
abbrev pub joined : {X : Type 0} → List (List X) → List X
joined lists = flat_map (λ list. list) lists

-- each line has its rows: end to end they are the line, and those of all lines are these rows, in order
pub record AreCutFrom (lines rows : List (List ℕ)) : Type 0 where
  pub cuts : List (List (List ℕ))
  pub of_lines : map joined cuts ≡ lines
  pub of_rows : joined cuts ≡ rows
