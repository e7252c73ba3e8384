-- The bytes gathered are the first `i` of the log. For the loop of `has_line`.
use Rattle.std.proofs.Common.{◌≡◌, ◌+◌, length, map}
use Rattle.std.specs.Prelude.{slice_index}
use Rattle.std.specs.List.{range_with_len}
use Rattle.layout_spec.specs.Marks.{log_place}
use Rattle.layout_search.proofs.looking.has_line.Given as goal

-- the bytes so far
abbrev pub invariant-loop-i : goal.invariant-loop-i
invariant-loop-i l = record {
  bytes : l.front.items ≡ map (λ i. slice_index l.image (l.zone.at + 12 + log_place l.words i)) (range_with_len 0 l.i);
  len : length l.front.items ≡ l.i;
}
