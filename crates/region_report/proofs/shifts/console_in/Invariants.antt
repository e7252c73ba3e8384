-- The records that are left decide. For the loop of `console_in`.
use Rattle.std.proofs.Common.{◌≡◌, drop}
use Rattle.report_spec.specs.Said.{console_in}
use Rattle.region_report.proofs.shifts.console_in.Given as goal

abbrev pub invariant-loop-held : goal.invariant-loop-held
invariant-loop-held l = console_in l.records ≡ console_in (drop l.held-index l.records)
