-- Those of the dumps so far
use Rattle.std.proofs.Common.{◌≡◌, take}
use Rattle.std.specs.Prelude.{filter}
use Rattle.report_html.specs.Causes.{has_line_of, crash_in, crashes_in}
use Rattle.report_html.proofs.causes.alike.Given as goal

abbrev pub invariant-loop-crash : goal.invariant-loop-crash
invariant-loop-crash l = crashes_in l.alike.items
    ≡ filter (has_line_of (crash_in l.first)) (crashes_in (take l.crash-index l.crashes))
