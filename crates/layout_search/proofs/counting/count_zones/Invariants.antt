-- The counts are those of the zones so far, and none is more than so many zones can make. For the
-- loop of `count_zones`.
use Rattle.std.proofs.Common.{take}
use Rattle.layout_search.specs.Counted.{AreCounts, AreAtMost}
use Rattle.layout_search.specs.Sights.{AreSeen}
use Rattle.layout_search.proofs.counting.count_zones.Given as goal

-- the counts over the zones so far
abbrev pub invariant-loop-zone : goal.invariant-loop-zone
invariant-loop-zone l = record {
  counted : AreCounts l.image (take l.zone-index l.zones) l.counts;
  at_most : AreAtMost l.zone-index l.counts;
  seen : AreSeen l.image l.sights;
}
