-- A call begun has as many stores left as the session says; a refused one has none. For
-- `begin_stores`.
use Rattle.ramoops.specs.Asks.{ask_seen}
use Rattle.ram_generator.proofs.SessionCalls.{begun_call, unbegun_call}
use Rattle.ram_generator.proofs.calls.begin_stores.Goals as goal

pub returns-in-Ok : goal.returns-in-Ok
returns-in-Ok c = begun_call c.args.live.now c.begin.new.live (ask_seen c.args.ask)
    c.in-Ok.zone c.left.result c.check.ensures c.in-Ok.ensures.begun c.left.ensures

pub returns-in-Err : goal.returns-in-Err
returns-in-Err c = unbegun_call c.args.live.now c.begin.new.live (ask_seen c.args.ask)
    c.in-Err.field-0 c.in-Err.ensures.unchanged c.in-Err.ensures.refused
