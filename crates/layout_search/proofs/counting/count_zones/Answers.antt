-- One zone more is added to each count, and the counts stay small. If too many of the first zones
-- do not fit, too many of all do not. For `count_zones`.
use Rattle.std.proofs.Common.{◌+◌, List, take, sym, subst, arith}
use Rattle.std.proofs.lemmas.Option.{slice_get-get_or}
use Rattle.std.proofs.lemmas.List.{take_all}
use Rattle.std.proofs.lemmas.List.Sums.{sum_by-take-le}
use Rattle.std.specs.Prelude.{not, if◌then◌else◌}
use Rattle.zone_spec.specs.declared.Zone.{Zone}
use Rattle.layout_spec.specs.Marks.{fits}
use Rattle.layout_search.specs.Counted.{AreCounts}
use Rattle.layout_search.specs.declared.counting.Counts.{Counts}
use Rattle.layout_search.proofs.Sums.{counts_more, below}
use Rattle.layout_search.proofs.counting.count_zones.Goals as goal

pub see-look-requires-clause-inside : goal.see-look-requires-clause-inside
see-look-requires-clause-inside c = c.requires.inside c.loop-zone.zone-index _
    (slice_get-get_or c.args.zones.now c.loop-zone.zone-index _ c.loop-zone-test.true)

pub with-counts-requires : goal.with-counts-requires
with-counts-requires c = record {
  below = below c.loop-zone.zone-index c.loop-zone.counts (omega (arith, c.loop-zone-test.true, c.requires.few)) c.loop-zone.invariant.at_most;
  size = (c.requires.inside c.loop-zone.zone-index _
      (slice_get-get_or c.args.zones.now c.loop-zone.zone-index _ c.loop-zone-test.true)).valid.at_most;
}

pub loop-zone-preserved : goal.loop-zone-preserved
loop-zone-preserved c = record {
  counted = subst (λ (k : Counts). AreCounts c.args.image.now (take (c.loop-zone.zone-index + 1) c.args.zones.now) k)
      (sym c.with-counts.ensures.value)
      (counts_more c.args.image.now c.args.zones.now c.loop-zone.zone-index _ c.loop-zone.counts c.see-look.result
      c.loop-zone-test.true c.loop-zone.invariant.counted c.see-look.ensures.look);
  at_most = c.with-counts.ensures.grows c.loop-zone.zone-index c.loop-zone.invariant.at_most;
  seen = c.see-look.ensures.seen;
}

pub returns-then-counts-most-clause-counts : goal.returns-then-counts-most-clause-counts
returns-then-counts-most-clause-counts c = omega (
  arith,
  c.if-counts-most.true,
  c.loop-zone.invariant.counted.misses_are,
  sum_by-take-le (λ z. if not (fits c.args.image.now z) then 1 else 0) c.args.zones.now c.loop-zone.zone-index,
)

pub returns-clause-counts : goal.returns-clause-counts
returns-clause-counts c = (
  subst (λ (zones : List Zone). AreCounts c.args.image.now zones c.loop-zone.counts)
      (take_all c.loop-zone.zone-index c.args.zones.now c.loop-zone-test.false) c.loop-zone.invariant.counted,
  below c.loop-zone.zone-index c.loop-zone.counts (omega arith) c.loop-zone.invariant.at_most,
)
