-- The entries so far stand on the line. For the loop of `put_each_entry`.
use Rattle.std.proofs.Common.{◌≡◌, map, take}
use Rattle.report_json.specs.Schema.{entry_data}
use Rattle.report_json.specs.Tokens.{all_onto}
use Rattle.report_json.proofs.records.put_each_entry.Given as goal

abbrev pub invariant-loop-entry : goal.invariant-loop-entry
invariant-loop-entry l = l.line ≡ all_onto (map (entry_data l.bytes) (take l.entry-index l.entries)) l.initial.line
