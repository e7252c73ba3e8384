-- Those of the dumps so far
use Rattle.std.proofs.Common.{◌≡◌, take}
use Rattle.std.specs.Prelude.{filter}
use Rattle.report_html.specs.Causes.{has_no_row, crashes_in}
use Rattle.report_html.proofs.causes.others.Given as goal

abbrev pub invariant-loop-crash : goal.invariant-loop-crash
invariant-loop-crash l = crashes_in l.others.items
    ≡ filter (has_no_row (crashes_in l.rows)) (crashes_in (take l.crash-index l.crashes))
