-- The bytes and the doubts so far
use Rattle.std.proofs.Common.{◌≡◌, ◌≤◌, ◌++◌, map}
use Rattle.std.specs.List.{range_with_len}
use Rattle.report_spec.specs.Mending.{mended_byte, still_doubted}
use Rattle.region_report.specs.Mendings.{as_seen}
use Rattle.region_report.proofs.mending.MendedText.add_shared.Given as goal

abbrev pub invariant-loop-k : goal.invariant-loop-k
invariant-loop-k l = record {
  text : l.self.text.items
      ≡ l.initial.self.text.items ++ map (mended_byte (as_seen l.x) (as_seen l.y)) (range_with_len 0 l.k);
  doubts : l.self.doubts.items
      ≡ l.initial.self.doubts.items ++ map (still_doubted (as_seen l.x) (as_seen l.y)) (range_with_len 0 l.k);
  within : l.k ≤ l.len;
}
