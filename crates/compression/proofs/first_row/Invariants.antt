-- The rows from here decide. For the loop of `first_row`.
use Rattle.std.proofs.Common.{◌≡◌, drop}
use Rattle.compression_spec.specs.Magics.{first_row}
use Rattle.compression.specs.Rows.{plain}
use Rattle.compression.proofs.first_row.Given as goal

abbrev pub invariant-loop-row : goal.invariant-loop-row
invariant-loop-row l = first_row (plain l.rows) l.front ≡ first_row (plain (drop l.row-index l.rows)) l.front
