-- A zone with a flight decides; with none in any zone no flight stands in the record. For
-- `flies_in_record`.
use Rattle.std.proofs.Common.{ap, length, arith}
use Rattle.zone_spec.specs.declared.Zone.{Zone}
use Rattle.ram_session.proofs.ErasedZones.{none_yet, none_next, flies_there, none_flies}
use Rattle.ram_session.proofs.erasing.flies_in_record.Goals as goal

pub loop-i-init : goal.loop-i-init
loop-i-init c = none_yet c.args.live.now c.args.name

pub returns-then-flies_at : goal.returns-then-flies_at
returns-then-flies_at c = flies_there c.args.live.now c.args.name c.loop-i.i c.flies_at.result c.if-flies_at.true
    (omega (arith, ap (length {A = Zone}) c.zones-i-end.ensures.value, c.loop-i-test.true)) c.flies_at.ensures

pub loop-i-preserved : goal.loop-i-preserved
loop-i-preserved c = none_next c.args.live.now c.args.name c.loop-i.i c.flies_at.result c.if-flies_at.false
    c.flies_at.ensures c.loop-i.invariant

pub returns : goal.returns
returns c = none_flies c.args.live.now c.args.name c.loop-i.i
    (omega (arith, ap (length {A = Zone}) c.zones-i-end.ensures.value, c.loop-i-test.false)) c.loop-i.invariant
