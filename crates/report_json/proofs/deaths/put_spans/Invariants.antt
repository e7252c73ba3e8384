-- The spans so far stand on the line. For the loop of `put_spans`.
use Rattle.std.proofs.Common.{◌≡◌, map, take}
use Rattle.report_json.specs.Schema.{span_data}
use Rattle.report_json.specs.Tokens.{all_onto}
use Rattle.report_json.proofs.deaths.put_spans.Given as goal

abbrev pub invariant-loop-span : goal.invariant-loop-span
invariant-loop-span l = l.line ≡ all_onto (map (span_data l.text) (take l.span-index l.spans)) l.initial.line
