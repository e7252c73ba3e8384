-- None of the first `i` places is a mark, so the first is among the others. For the loop of `first_order`.
use Rattle.std.proofs.Common.{◌≡◌, ◌-◌, ◌/◌, length}
use Rattle.std.specs.List.{range_with_len}
use Rattle.layout_spec.specs.Marks.{byte_order_in, first_order}
use Rattle.layout_search.proofs.marks.first_order.Given as goal

-- the places that are left
abbrev pub invariant-loop-i : goal.invariant-loop-i
invariant-loop-i l =
    byte_order_in l.image ≡ first_order l.image (range_with_len l.i ((length l.image - 10) / 2 - l.i))
