-- The numbers from `i` on decide between the two keys. For the loop of `is_before`.
use Rattle.std.proofs.Common.{◌≡◌, drop}
use Rattle.layout_spec.specs.Order.{is_before}
use Rattle.layout_search.proofs.order.is_before.Given as goal

-- the rest decides
abbrev pub invariant-loop-i : goal.invariant-loop-i
invariant-loop-i l = is_before l.a l.b ≡ is_before (drop l.i l.a) (drop l.i l.b)
