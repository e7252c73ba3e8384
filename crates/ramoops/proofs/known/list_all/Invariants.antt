-- Known of all zones is what was at the start, and there is room for the rest. For the loop of
-- `list_all`.
use Rattle.std.proofs.Common.{◌≡◌, ◌≤◌, ◌-◌, length}
use Rattle.std.specs.Vec.{vec_capacity}
use Rattle.ramoops.specs.OffSeen.{known_all}
use Rattle.ramoops.proofs.known.list_all.Given as goal

abbrev pub invariant-loop-known : goal.invariant-loop-known
invariant-loop-known l = record {
  within : length l.known.items ≤ l.count;
  room : l.count ≤ vec_capacity l.known;
  same : known_all l.count l.known.items ≡ known_all l.count l.initial.known.items;
}

abbrev pub decreases-loop-known : goal.decreases-loop-known
decreases-loop-known l = l.count - length l.known.items
