-- The zones so far are read
use Rattle.region_report.specs.Reports.{ReadsTo}
use Rattle.region_report.proofs.report.read_zones.Given as goal

-- the zones so far
abbrev pub invariant-loop-i : goal.invariant-loop-i
invariant-loop-i l = ReadsTo l.zones l.spans.spans l.i l.readings
