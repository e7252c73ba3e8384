-- The count is that of the marks at the first `i` even places. For the loop of `count_marks`.
use Rattle.std.proofs.Common.{◌≡◌, ◌*◌, ◌≤◌}
use Rattle.std.specs.Prelude.{count_by}
use Rattle.std.specs.List.{range_with_len}
use Rattle.layout_spec.specs.Marks.{is_mark}
use Rattle.layout_search.proofs.marks.count_marks.Given as goal

-- the marks so far
abbrev pub invariant-loop-i : goal.invariant-loop-i
invariant-loop-i l = record {
  counted : l.count ≡ count_by (λ i. is_mark l.image (2 * i)) (range_with_len 0 l.i);
  few : l.count ≤ l.i;
}
