-- A call begun and finished has made all its stores; a refused one none. For `make_stores`.
use Rattle.ramoops.specs.Asks.{ask_seen}
use Rattle.ram_session.proofs.Makes.{make_done, make_idle}
use Rattle.ram_generator.proofs.SessionCalls.{made_call, refused_call}
use Rattle.ram_generator.proofs.calls.make_stores.Goals as goal

pub returns-in-Err : goal.returns-in-Err
returns-in-Err c = refused_call c.args.live.now c.begin.new.live (ask_seen c.args.ask)
    c.in-Err.field-0 c.in-Err.ensures.unchanged c.in-Err.ensures.refused

pub returns-in-Ok-finish : goal.returns-in-Ok-finish
returns-in-Ok-finish c = made_call c.args.live.now c.begin.new.live c.finish.new.live (ask_seen c.args.ask)
    c.in-Ok.zone c.left-stores.result c.check.ensures c.in-Ok.ensures.begun c.left-stores.ensures
    (make_done c.args.live.now c.begin.new.live c.finish.new.live (ask_seen c.args.ask)
    c.in-Ok.zone c.check.ensures c.in-Ok.ensures.begun c.in-Ok-finish.ensures.finished)

pub returns-in-Err-finish : goal.returns-in-Err-finish
returns-in-Err-finish c = made_call c.args.live.now c.begin.new.live c.finish.new.live (ask_seen c.args.ask)
    c.in-Ok.zone c.left-stores.result c.check.ensures c.in-Ok.ensures.begun c.left-stores.ensures
    (make_idle c.args.live.now c.begin.new.live c.finish.new.live (ask_seen c.args.ask)
    c.in-Ok.zone c.in-Err-finish.field-0 c.check.ensures c.in-Ok.ensures.begun c.in-Err-finish.ensures.unchanged
    c.in-Err-finish.ensures.refused)
