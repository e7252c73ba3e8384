-- The zones of the rows so far are counted, and none has the name. For the loop of `place`.
use Rattle.std.proofs.Common.{◌≡◌, ◌+◌, drop}
use Rattle.std.specs.List.{sum_by}
use Rattle.zone_spec.specs.declared.params.Row.{Row}
use Rattle.ramoops_layout.proofs.RowPlaces.{rows_place}
use Rattle.ramoops_layout.proofs.rows.place.Given as goal

-- the zones of the rows so far, and then those of the rows that are left
abbrev pub invariant-loop-row : goal.invariant-loop-row
invariant-loop-row l = record {
  place : rows_place l.name l.rows ≡ l.first + rows_place l.name (drop l.row-index l.rows);
  counts : l.first + sum_by (λ (row : Row). row.count) (drop l.row-index l.rows)
      ≡ sum_by (λ (row : Row). row.count) l.rows;
}
