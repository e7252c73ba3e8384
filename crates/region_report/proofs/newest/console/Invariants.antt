-- The console is among the records that are left
use Rattle.std.proofs.Common.{◌≡◌, drop}
use Rattle.report_spec.specs.Newest.{console_of}
use Rattle.region_report.proofs.newest.console.Given as goal

abbrev pub invariant-loop-entry : goal.invariant-loop-entry
invariant-loop-entry l = console_of (drop l.entry-index l.records) ≡ console_of l.records
