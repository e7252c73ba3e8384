-- The warnings so far stand on the line. For the loop of `put_each`.
use Rattle.std.proofs.Common.{◌≡◌, map, take}
use Rattle.report_json.specs.Schema.{warning_data}
use Rattle.report_json.specs.Tokens.{all_onto}
use Rattle.report_json.proofs.warned.put_each.Given as goal

abbrev pub invariant-loop-warning : goal.invariant-loop-warning
invariant-loop-warning l = l.line ≡ all_onto (map (warning_data l.origin) (take l.warning-index l.warnings)) l.initial.line
