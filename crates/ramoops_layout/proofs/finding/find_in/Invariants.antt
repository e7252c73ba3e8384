-- The zone is among those of the rows that are left
use Rattle.std.proofs.Common.{◌≡◌, ◌+◌, ◌^◌, ◌≤◌, drop}
use Rattle.zone_spec.specs.Layout.{zones_from}
use Rattle.ramoops_layout.specs.Rows.{all_taken}
use Rattle.ramoops_layout.specs.Found.{zone_named}
use Rattle.ramoops_layout.proofs.finding.find_in.Given as goal

abbrev pub invariant-loop-row : goal.invariant-loop-row
invariant-loop-row l = record {
  zone : zone_named (zones_from l.p 0 l.rows) l.name ≡ zone_named (zones_from l.p l.at (drop l.row-index l.rows)) l.name;
  within : l.at + all_taken (drop l.row-index l.rows) ≤ 2 ^ 24;
}
