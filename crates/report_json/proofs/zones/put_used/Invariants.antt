-- The states so far stand on the line. For the loop of `put_used`.
use Rattle.std.proofs.Common.{◌≡◌, map, take}
use Rattle.report_json.specs.Schema.{part_data}
use Rattle.report_json.specs.Tokens.{all_onto}
use Rattle.report_json.proofs.zones.put_used.Given as goal

abbrev pub invariant-loop-state : goal.invariant-loop-state
invariant-loop-state l = l.line ≡ all_onto (map part_data (take l.state-index l.used)) l.initial.line
