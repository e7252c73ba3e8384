-- The runs so far were added, and those that are left follow
use Rattle.std.proofs.Common.{◌≤◌, ◌-◌, ◌++◌, length}
use Rattle.std.specs.Prelude.{flat_map}
use Rattle.report_html.specs.Pieces.{parts}
use Rattle.report_html.specs.Pictures.{runs, run_parts}
use Rattle.report_html.proofs.Blocks.{IsLeft}
use Rattle.report_html.proofs.picture.add_used.Given as goal

abbrev pub invariant-loop-from : goal.invariant-loop-from
invariant-loop-from l = record {
  within : l.from ≤ length l.blocks;
  left : IsLeft (run_parts l.zone) l.blocks l.from (parts l.pieces.items)
      (parts l.initial.pieces.items ++ flat_map (run_parts l.zone) (runs 0 l.blocks));
}

abbrev pub decreases-loop-from : goal.decreases-loop-from
decreases-loop-from l = length l.blocks - l.from
