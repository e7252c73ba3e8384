-- The rows passed over leave room. For the loop of `has_tight`.
use Rattle.std.proofs.Common.{◌≡◌, ◌&&◌, nat_lt, drop}
use Rattle.std.specs.List.{list_any}
use Rattle.zone_spec.specs.declared.params.Row.{Row}
use Rattle.zone_spec.specs.Layout.{zone_at}
use Rattle.ramoops_layout.proofs.rows.has_tight.Given as goal

-- the rows passed over leave room
abbrev pub invariant-loop-row : goal.invariant-loop-row
invariant-loop-row l =
    list_any (λ (row : Row). nat_lt 0 row.count && nat_lt (zone_at l.p row.kind row.size 0 0).cap 64) l.rows
    ≡ list_any (λ (row : Row). nat_lt 0 row.count && nat_lt (zone_at l.p row.kind row.size 0 0).cap 64)
    (drop l.row-index l.rows)
