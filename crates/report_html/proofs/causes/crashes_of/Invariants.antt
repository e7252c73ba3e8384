-- The dumps among the records so far
use Rattle.std.proofs.Common.{◌≡◌, take}
use Rattle.report_html.specs.Causes.{crashes_of, crashes_in}
use Rattle.report_html.proofs.causes.crashes_of.Given as goal

abbrev pub invariant-loop-entry : goal.invariant-loop-entry
invariant-loop-entry l = crashes_in l.crashes.items ≡ crashes_of (take l.entry-index l.records)
