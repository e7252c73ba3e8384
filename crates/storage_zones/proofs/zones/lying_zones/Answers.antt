-- Each place has a zone, up to the last. For `lying_zones`.
use Rattle.std.proofs.Common.{◌∙◌, arith}
use Rattle.std.proofs.lemmas.List.{take_all}
use Rattle.psz_spec.specs.Layouts.{zones_of}
use Rattle.storage_zones.proofs.Takes.{added}
use Rattle.storage_zones.proofs.zones.lying_zones.Goals as goal

pub loop-index-preserved : goal.loop-index-preserved
loop-index-preserved c =
    added (zones_of c.args.sizes.now) c.loop-index.zones.items c.add_zone.new.zones.items c.loop-index.index
    c.zone_at-zone.result c.loop-index.invariant c.zone_at-zone.ensures c.in_ok-add_zone.ensures

pub returns : goal.returns
returns c = c.loop-index.invariant
    ∙ take_all c.loop-index.index (zones_of c.args.sizes.now)
    (let all = c.zone_count-count.ensures.all in let past = c.loop-index-test.false in omega (arith, all, past))
