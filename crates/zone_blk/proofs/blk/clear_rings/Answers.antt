-- The empty headers of pmsg and console are the writes of a loading; if one fails those before it
-- are made. For `clear_rings`.
use Rattle.std.proofs.Common.{refl}
use Rattle.blk_spec.specs.declared.BlkRing.TheVariants.{Console}
use Rattle.blk_spec.specs.Layout.{ring_zone}
use Rattle.blk_spec.specs.Answers.{device}
use Rattle.blk_spec.specs.States.{clearing}
use Rattle.zone_blk.proofs.LoadingWrites.{load-writes}
use Rattle.zone_blk.proofs.Sequences.{then-ends, fails-before, ends-same, fails-same}
use Rattle.zone_blk.proofs.blk.clear_rings.Goals as goal

pub returns-in-Ok-clause-ends : goal.returns-in-Ok-clause-ends
returns-in-Ok-clause-ends g c =
    ends-same c.clear_ring-in-Ok.result _ _ _ _ _ _ (load-writes c.args.layout c.ring_zone.result
    c.ring_zone-in-Ok.result c.ring_zone.ensures.zone c.ring_zone-in-Ok.ensures.zone)
    (then-ends c.clear_ring-in-Ok.result (clearing c.ring_zone.result) (clearing c.ring_zone-in-Ok.result)
    c.args.cut.now c.clear_ring.new.cut c.clear_ring-in-Ok.new.cut
    _ _ _ c.in-Ok.ensures.ends c.clear_ring-in-Ok.ensures.ends)

pub returns-in-Err-clause-ends : goal.returns-in-Err-clause-ends
returns-in-Err-clause-ends g c =
    fails-same _ _ _ _ _ _ (load-writes c.args.layout c.ring_zone.result (ring_zone c.args.layout Console)
    c.ring_zone.ensures.zone refl)
    (fails-before (clearing c.ring_zone.result) (clearing (ring_zone c.args.layout Console))
    c.args.cut.now c.clear_ring.new.cut c.clear_ring.new.cut
    _ _ (device (g.M.Load.holds c.clear_ring.new.store) (g.M.Load.writes c.clear_ring.new.store)
    (g.M.Load.read_faults c.clear_ring.new.store))
    c.in-Err.ensures.ends)
