-- The zone beside the i-th reading has this name
use Rattle.zone_spec.specs.declared.Zone.{Zone}
use Rattle.prz_read.proofs.Saves.{zone-part}
use Rattle.prz_read.proofs.logs.Logs.name.Goals as goal

pub returns : goal.returns
returns c =
    zone-part (λ (z : Zone). z.name)
    (record { zones = c.self.inside.zones.items; readings = c.self.inside.readings.items })
    c.args.self.now c.args.i c.index.result.now c.self.view_is c.index.ensures c.requires c.self.invariant.below
