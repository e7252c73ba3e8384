-- Tables of the caller's
use Rattle.std.specs.Prelude.{◌≡◌, ℕ, ◌+◌, ◌*◌, ◌^◌, ◌⊎◌, Bool, ◌&&◌, if◌then◌else◌, nat_le, ◌==◌, List, [], length}
use Rattle.std.specs.Prelude.{map}
use Rattle.rs_encode.specs.Lanes.{IsTable}
use Rattle.oopsbox_c.specs.declared.ends.End.{End}
use Rattle.oopsbox_c.specs.declared.ends.End.TheVariants.{Done, Argument}
use Rattle.oopsbox_c.specs.declared.tables.TableRow.{TableRow}

-- the number of a row's two halves
abbrev pub row_value : TableRow → ℕ
row_value row = row.high * 2 ^ 64 + row.low

abbrev pub rows_in : List TableRow → List ℕ
rows_in table = map (λ row. row_value row) table

-- a table for so many parity bytes has so many rows
abbrev pub fits_table : ℕ → ℕ → Bool
fits_table parity rows = nat_le 1 parity && nat_le parity 127 && (rows == 256)

abbrev pub table_end : ℕ → ℕ → End
table_end parity rows = if fits_table parity rows then Done else Argument

-- no rows, or as many as a table has
abbrev pub IsLendable : List TableRow → Type 0
IsLendable table = (table ≡ []) ⊎ (length table ≡ 256)

-- what a caller owes: so many rows are the table for so many parity bytes
abbrev pub IsOwed : ℕ → List TableRow → Type 0
IsOwed parity table = length table ≡ 256 → IsTable parity (rows_in table)
