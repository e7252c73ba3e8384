-- What is seen is what was seen before and of the row's first `i` places. For the loop of `see`.
use Rattle.std.proofs.Common.{◌≡◌, ◌+◌, ◌*◌, ◌≤◌}
use Rattle.std.specs.Prelude.{not, count_by}
use Rattle.std.specs.List.{range_with_len}
use Rattle.layout_spec.specs.Marks.{is_mark, seems_to_begin}
use Rattle.layout_search.proofs.seeing.see.Given as goal

-- what is seen so far
abbrev pub invariant-loop-i : goal.invariant-loop-i
invariant-loop-i l = record {
  far : l.seen.far ≡ l.fn.before.far
      + count_by (λ i. not (seems_to_begin l.row.kind l.image (l.start + i * l.row.size))) (range_with_len 0 l.i);
  marked : l.seen.marked ≡ l.fn.before.marked
      + count_by (λ i. is_mark l.image (l.start + i * l.row.size)) (range_with_len 0 l.i);
  most_far : l.seen.far ≤ l.fn.before.far + l.i;
  most_marked : l.seen.marked ≤ l.fn.before.marked + l.i;
}
