-- One zone more is the row's next. For the loop of `add_row`.
use Rattle.std.proofs.Common.{◌+◌, ◌*◌}
use Rattle.zone_spec.specs.Layout.{zone_at}
use Rattle.ramoops_layout.proofs.LaidOut.{one_more}
use Rattle.ramoops_layout.proofs.laying.add_row.Goals as goal

pub loop-index-preserved : goal.loop-index-preserved
loop-index-preserved c = one_more (λ i. zone_at c.args.p.now c.args.row.kind c.args.row.size i
    (c.args.at + i * c.args.row.size)) c.args.zones.now.items c.loop-index.zones.items c.push.new.self.items
    c.zone_at-zone.result c.loop-index.index c.in_ok-push.ensures.items c.loop-index.invariant c.zone_at-zone.ensures
