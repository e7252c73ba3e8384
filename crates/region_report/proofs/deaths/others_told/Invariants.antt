-- What the records so far tell
use Rattle.std.proofs.Common.{◌≡◌, map, take}
use Rattle.report_spec.specs.Deaths.{others_told}
use Rattle.region_report.specs.Tellers.{as_told}
use Rattle.region_report.proofs.deaths.others_told.Given as goal

abbrev pub invariant-loop-entry : goal.invariant-loop-entry
invariant-loop-entry l = map as_told l.tellings.items ≡ others_told l.name (take l.entry-index l.records)
