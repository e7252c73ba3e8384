-- The lines on what was found so far
use Rattle.std.proofs.Common.{◌≡◌, take, string_bytes}
use Rattle.report_run.specs.Places.{finding_lines}
use Rattle.report_run.proofs.places.finding_lines.Given as goal

abbrev pub invariant-loop-finding : goal.invariant-loop-finding
invariant-loop-finding l = string_bytes l.text ≡ finding_lines l.path l.base (take l.finding-index l.findings)
