-- Stores made in the zone's flight are the session's steps; without a flight nothing changes. For
-- `step_stores`.
use Rattle.ram_generator.proofs.SessionCalls.{stepped_on, not_stepped}
use Rattle.ram_generator.proofs.calls.step_stores.Goals as goal

pub returns-in-Ok : goal.returns-in-Ok
returns-in-Ok c = stepped_on c.args.live.now c.step.new.live c.args.zone c.args.count c.in-Ok.ensures.stepped

pub returns-in-Err : goal.returns-in-Err
returns-in-Err c = not_stepped c.args.live.now c.step.new.live c.args.zone c.args.count c.in-Err.field-0
    c.in-Err.ensures.unchanged c.in-Err.ensures.refused
