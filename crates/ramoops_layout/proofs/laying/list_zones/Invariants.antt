-- The zones so far, and then those of the rows that are left
use Rattle.std.proofs.Common.{◌≡◌, ◌+◌, ◌^◌, ◌≤◌, ◌++◌, drop}
use Rattle.zone_spec.specs.Layout.{zones_from}
use Rattle.ramoops_layout.specs.Rows.{all_taken}
use Rattle.ramoops_layout.proofs.laying.list_zones.Given as goal

abbrev pub invariant-loop-row : goal.invariant-loop-row
invariant-loop-row l = record {
  zones : l.zones.items ++ zones_from l.p l.at (drop l.row-index l.rows) ≡ zones_from l.p 0 l.rows;
  within : l.at + all_taken (drop l.row-index l.rows) ≤ 2 ^ 24;
}
