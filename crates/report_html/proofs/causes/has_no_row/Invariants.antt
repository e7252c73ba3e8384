-- The rows that are left decide
use Rattle.std.proofs.Common.{◌≡◌, drop}
use Rattle.std.specs.List.{list_any}
use Rattle.report_html.specs.Causes.{has_line_of, crash_in, crashes_in}
use Rattle.report_html.proofs.causes.has_no_row.Given as goal

abbrev pub invariant-loop-row : goal.invariant-loop-row
invariant-loop-row l = list_any (has_line_of (crash_in l.crash)) (crashes_in l.rows)
    ≡ list_any (has_line_of (crash_in l.crash)) (crashes_in (drop l.row-index l.rows))
