-- The blocks so far read alike
use Rattle.std.proofs.Common.{◌≡◌, ◌<◌, ◌≤◌, length, Some}
use Rattle.std.specs.Prelude.{slice_get}
use Rattle.zone_spec.specs.declared.PartState.{PartState}
use Rattle.report_html.proofs.Blocks.{AlikeTo}
use Rattle.report_html.proofs.block_runs.run_end.Given as goal

abbrev pub invariant-loop-to : goal.invariant-loop-to
invariant-loop-to l = record {
  on : l.from < l.to;
  within : l.to ≤ length l.blocks;
  alike : (s : PartState) → slice_get l.blocks l.from ≡ Some s → AlikeTo l.blocks l.from l.to s;
}
