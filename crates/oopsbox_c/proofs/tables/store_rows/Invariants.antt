-- The rows that are stored so far
use Rattle.std.proofs.Common.{◌≡◌, ◌<◌, ℕ, length, get_or}
use Rattle.oopsbox_c.specs.Tables.{row_value}
use Rattle.oopsbox_c.proofs.StoredRows.{zero_row}
use Rattle.oopsbox_c.proofs.tables.store_rows.Given as goal

abbrev pub invariant-loop-i : goal.invariant-loop-i
invariant-loop-i l = record {
  stored : (k : ℕ) → k < l.i → row_value (get_or l.table k zero_row) ≡ get_or l.rows k 0;
  len : length l.table ≡ 256;
}
