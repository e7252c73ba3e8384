-- The records so far stand on the line. For the loop of `put_each`.
use Rattle.std.proofs.Common.{◌≡◌, map, take}
use Rattle.prz_read.specs.Saving.{saved}
use Rattle.report_json.specs.Schema.{record_data}
use Rattle.report_json.specs.Tokens.{all_onto}
use Rattle.report_json.proofs.records.put_each.Given as goal

abbrev pub invariant-loop-held : goal.invariant-loop-held
invariant-loop-held l = l.line
    ≡ all_onto (map (record_data l.origin (saved l.logs)) (take l.held-index l.records)) l.initial.line
