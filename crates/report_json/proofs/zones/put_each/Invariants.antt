-- The values of the first `i` zones stand on the line. For the loop of `put_each`.
use Rattle.report_json.specs.PutZones.{PutsZones}
use Rattle.report_json.proofs.zones.put_each.Given as goal

abbrev pub invariant-loop-i : goal.invariant-loop-i
invariant-loop-i l = PutsZones l.zones l.logs.readings l.parts l.i l.initial.line l.line
