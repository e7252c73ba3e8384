-- Android's log is among the records that are left
use Rattle.std.proofs.Common.{◌≡◌, drop}
use Rattle.report_spec.specs.Newest.{android_log_of}
use Rattle.region_report.proofs.newest.android_log.Given as goal

abbrev pub invariant-loop-entry : goal.invariant-loop-entry
invariant-loop-entry l = android_log_of (drop l.entry-index l.records) ≡ android_log_of l.records
