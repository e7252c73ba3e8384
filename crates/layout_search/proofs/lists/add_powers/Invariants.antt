-- Of the powers so far those that are small enough are added. For the loop of `add_powers`.
use Rattle.std.proofs.Common.{◌≡◌, ◌++◌, take}
use Rattle.std.specs.Prelude.{filter, nat_le}
use Rattle.layout_search.proofs.lists.add_powers.Given as goal

-- the powers so far
abbrev pub invariant-loop-n : goal.invariant-loop-n
invariant-loop-n l = l.list.items ≡ l.initial.list.items ++ filter (λ n. nat_le n l.most) (take l.n-index l.powers)
