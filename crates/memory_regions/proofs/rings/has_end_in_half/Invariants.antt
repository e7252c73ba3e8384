-- None of the first `i` even places has such an end. For the loop of `has_end_in_half`.
use Rattle.std.proofs.Common.{◌≡◌, ◌*◌, false}
use Rattle.std.specs.List.{range_with_len, flat_map, list_any}
use Rattle.memory_spec.specs.Rings.{ends_at}
use Rattle.memory_spec.specs.Sizes.{ends_in_half}
use Rattle.memory_regions.proofs.rings.has_end_in_half.Given as goal

abbrev pub invariant-loop-i : goal.invariant-loop-i
invariant-loop-i l =
    list_any (ends_in_half l.size) (flat_map (λ i. ends_at l.bytes (2 * i)) (range_with_len 0 l.i)) ≡ false
