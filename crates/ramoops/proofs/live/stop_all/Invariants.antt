-- What is known so far, and what a stop tells of the zones left, is that of all zones, for which
-- there is room. For the loop of `stop_all`.
use Rattle.std.proofs.Common.{◌≡◌, ◌≤◌, ◌+◌, ◌++◌, length, map}
use Rattle.std.specs.Vec.{vec_capacity}
use Rattle.std_alloc.specs.Vec.Iter.{into_iter_items}
use Rattle.ramoops.specs.Stopped.{stop_zone}
use Rattle.ramoops.proofs.live.stop_all.Given as goal

abbrev pub invariant-loop-zone : goal.invariant-loop-zone
invariant-loop-zone l = record {
  next : (goal.iterator-loop-zone).can_next l.zone-iterator;
  finite : (goal.iterator-loop-zone).is_finite l.zone-iterator;
  items : l.stopped.items ++ map stop_zone (into_iter_items l.zone-iterator) ≡ map stop_zone l.fn.zones.items;
  room : length l.stopped.items + length (into_iter_items l.zone-iterator) ≤ vec_capacity l.stopped;
}
