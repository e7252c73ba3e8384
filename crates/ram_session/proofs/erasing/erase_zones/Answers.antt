-- One zone more is passed, and in the end all of the record are erased. For `erase_zones`.
use Rattle.std.proofs.Common.{ap, length, arith}
use Rattle.zone_spec.specs.declared.Zone.{Zone}
use Rattle.ram_session.proofs.ErasedZones.{erases_none, erases_next, erases_all}
use Rattle.ram_session.proofs.erasing.erase_zones.Goals as goal

pub loop-i-init : goal.loop-i-init
loop-i-init c = erases_none c.args.live.now c.args.name

pub loop-i-preserved : goal.loop-i-preserved
loop-i-preserved c = erases_next c.args.live.now c.loop-i.live c.erase_zone.new.live c.args.name c.loop-i.i
    (omega (arith, ap (length {A = Zone}) c.zones-i-end.ensures.value, c.loop-i-test.true))
    c.loop-i.invariant c.erase_zone.ensures

pub returns : goal.returns
returns c = erases_all c.args.live.now c.loop-i.live c.args.name c.loop-i.i
    (omega (arith, ap (length {A = Zone}) c.zones-i-end.ensures.value, c.loop-i-test.false)) c.loop-i.invariant
