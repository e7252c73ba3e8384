-- The rows from here decide. For the loop of `reason_in`.
use Rattle.std.proofs.Common.{◌≡◌, drop}
use Rattle.report_spec.specs.Ends.{reason_in}
use Rattle.region_report.specs.Tellers.{plain}
use Rattle.region_report.proofs.ends.reason_in.Given as goal

abbrev pub invariant-loop-row : goal.invariant-loop-row
invariant-loop-row l = reason_in (plain l.rows) l.text ≡ reason_in (plain (drop l.row-index l.rows)) l.text
