-- The runs so far were looked at, and those that are left follow
use Rattle.std.proofs.Common.{◌≤◌, ◌-◌, ◌++◌, length}
use Rattle.std.specs.Prelude.{flat_map}
use Rattle.report_html.specs.Pictures.{runs}
use Rattle.report_html.specs.Spots.{run_spots}
use Rattle.report_html.proofs.Blocks.{IsLeft}
use Rattle.report_html.proofs.spots.push_blocks.Given as goal

abbrev pub invariant-loop-from : goal.invariant-loop-from
invariant-loop-from l = record {
  within : l.from ≤ length l.blocks;
  left : IsLeft (run_spots l.zone) l.blocks l.from l.spots.items
      (l.initial.spots.items ++ flat_map (run_spots l.zone) (runs 0 l.blocks));
}

abbrev pub decreases-loop-from : goal.decreases-loop-from
decreases-loop-from l = length l.blocks - l.from
