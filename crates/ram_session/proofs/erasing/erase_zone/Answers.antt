-- A place without a zone, a zone of another record and a zone of this one: each is erased or left
-- as defined. For `erase_zone`.
use Rattle.ram_session.proofs.ErasedZones.{nowhere, elsewhere, answered_there}
use Rattle.ram_session.proofs.erasing.erase_zone.Goals as goal

pub returns-in_default : goal.returns-in_default
returns-in_default c = nowhere c.args.live.now c.args.i c.args.name c.in_default.ensures.name

pub returns-then-is_in : goal.returns-then-is_in
returns-then-is_in c = answered_there c.args.live.now c.args.i c.args.name c.in-Some.zone c.is_in.result
    c.in-Some.ensures.name c.is_in.ensures c.in-Some.ensures.first c.if-is_in.true c.make.new.live c.make.result
    c.make.ensures.made c.make.ensures.refused

pub returns-else-is_in : goal.returns-else-is_in
returns-else-is_in c = elsewhere c.args.live.now c.args.i c.args.name c.in-Some.zone c.is_in.result
    c.in-Some.ensures.name c.is_in.ensures c.if-is_in.false
