-- What the records so far tell is held
use Rattle.std.proofs.Common.{take}
use Rattle.region_report.specs.Tellers.{told_in}
use Rattle.report_html.proofs.Earlier.{Held}
use Rattle.report_html.proofs.before.told_before.Given as goal

abbrev pub invariant-loop-entry : goal.invariant-loop-entry
invariant-loop-entry l = Held l.name (told_in l.before) (take l.entry-index l.records)
