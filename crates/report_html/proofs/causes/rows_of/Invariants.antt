-- The rows of the dumps so far
use Rattle.std.proofs.Common.{◌≡◌, take}
use Rattle.report_html.specs.Causes.{rows_of, crashes_in}
use Rattle.report_html.proofs.causes.rows_of.Given as goal

abbrev pub invariant-loop-crash : goal.invariant-loop-crash
invariant-loop-crash l = crashes_in l.rows.items ≡ rows_of (crashes_in (take l.crash-index l.crashes))
