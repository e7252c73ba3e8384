-- The places so far
use Rattle.std.proofs.Common.{◌≡◌, ◌+◌, ◌-◌, ◌≤◌, ◌++◌, map}
use Rattle.std.specs.List.{range_with_len}
use Rattle.report_spec.specs.Doubts.{is_doubtful}
use Rattle.region_report.proofs.doubts.push_doubts.Given as goal

abbrev pub invariant-loop-place : goal.invariant-loop-place
invariant-loop-place l = record {
  doubts : l.doubts.items
      ≡ l.initial.doubts.items ++ map (is_doubtful l.block l.states) (range_with_len l.from (l.place - l.from));
  from : l.from ≤ l.place;
  left : l.place - l.from + (l.to - l.place) ≡ l.to - l.from;
}
