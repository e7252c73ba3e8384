-- As many nulls stand on the line as blocks were counted. For the loop of `put_unused`.
use Rattle.std.proofs.Common.{◌≡◌}
use Rattle.std.specs.Prelude.{replicate}
use Rattle.serde_json.specs.Data.{null}
use Rattle.report_json.specs.Tokens.{all_onto}
use Rattle.report_json.proofs.zones.put_unused.Given as goal

abbrev pub invariant-loop-unused : goal.invariant-loop-unused
invariant-loop-unused l = l.line ≡ all_onto (replicate l._unused null) l.initial.line
