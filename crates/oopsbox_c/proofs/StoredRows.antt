-- Rows stored one after another
use Rattle.std.proofs.Common.{◌≡◌, ℕ, ◌+◌, ◌<◌, ◌≤◌, ◌⊎◌, inl, inr, List, length, set, get_or, ap, ◌∙◌, arith}
use Rattle.std.proofs.Common.{eq-or-lt_of_le}
use Rattle.std.proofs.lemmas.List.{length-map, get_or-set_same, get_or-set_other, get_or-map}
use Rattle.std.proofs.lemmas.Grind.{same_number_lists}
use Rattle.oopsbox_c.specs.declared.tables.TableRow.{TableRow}
use Rattle.oopsbox_c.specs.Tables.{row_value, rows_in}

abbrev pub zero_row : TableRow
zero_row = record { low = 0; high = 0 }

-- one more row
pub more : (table : List TableRow) (rows : List ℕ) (i : ℕ) (row : TableRow) → i < length table
    → row_value row ≡ get_or rows i 0
    → ((k : ℕ) → k < i → row_value (get_or table k zero_row) ≡ get_or rows k 0)
    → (k : ℕ) → k < i + 1 → row_value (get_or (set table i row) k zero_row) ≡ get_or rows k 0
more table rows i row within is so_far k lt = by (eq-or-lt_of_le (let l : k ≤ i = omega (arith, lt) in l))
  where
    by : (k ≡ i) ⊎ (k < i) → row_value (get_or (set table i row) k zero_row) ≡ get_or rows k 0
    by (inl e) = rw e (ap row_value (get_or-set_same table i row zero_row within) ∙ is)
    by (inr below) =
        ap row_value (get_or-set_other table i k row zero_row (λ e. let n : k < k = omega (arith, e, below) in
        omega (arith, n))) ∙ so_far k below

-- all rows
pub all : (table : List TableRow) (rows : List ℕ) → length table ≡ length rows
    → ((k : ℕ) → k < length table → row_value (get_or table k zero_row) ≡ get_or rows k 0)
    → rows_in table ≡ rows
all table rows len is =
    let count : length (rows_in table) ≡ length table = length-map table row_value in
    same_number_lists (rows_in table) rows (count ∙ len)
    (λ k lt. get_or-map row_value table k zero_row 0 (omega (arith, lt, count)) ∙ is k (omega (arith, lt, count)))
