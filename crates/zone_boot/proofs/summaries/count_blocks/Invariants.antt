-- The counts are the sums over the blocks so far, and small. For the loop of `count_blocks`.
use Rattle.std.proofs.Common.{◌≡◌, ◌≤◌, ◌*◌}
use Rattle.std.specs.List.{range_with_len, sum_by}
use Rattle.zone_spec.specs.Parts.{Block}
use Rattle.zone_spec.specs.PartReadings.{part_reading}
use Rattle.zone_boot.proofs.summaries.count_blocks.Given as goal

abbrev pub invariant-loop-b : goal.invariant-loop-b
invariant-loop-b l = record {
  corrected : l.counts.corrected ≡ sum_by (λ b. (part_reading l.zone l.image (Block b)).corrected)
      (range_with_len 0 l.b);
  bad : l.counts.bad ≡ sum_by (λ b. (part_reading l.zone l.image (Block b)).bad) (range_with_len 0 l.b);
  few : l.counts.corrected ≤ 255 * l.b;
  some : l.counts.bad ≤ l.b;
}
