-- Of the powers so far those that are reached are added. For the loop of `add_reached`.
use Rattle.std.proofs.Common.{◌≡◌, ◌++◌, take, length}
use Rattle.std.specs.Prelude.{filter, nat_le, ◌&&◌}
use Rattle.memory_spec.specs.Rings.{ends}
use Rattle.memory_spec.specs.Sizes.{is_reached}
use Rattle.memory_regions.proofs.sizes.add_reached.Given as goal

abbrev pub invariant-loop-n : goal.invariant-loop-n
invariant-loop-n l = l.list.items ≡ l.initial.list.items
    ++ filter (λ n. nat_le n (length l.bytes) && is_reached l.pages (ends l.bytes) n) (take l.n-index l.powers)
