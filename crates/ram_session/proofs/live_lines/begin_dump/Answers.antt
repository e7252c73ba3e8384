-- A dump begun or refused is the line `begin dump`. For `begin_dump`.
use Rattle.ram_session.proofs.LiveLines.{begin_dump_done, begin_dump_refused}
use Rattle.ram_session.proofs.live_lines.begin_dump.Goals as goal

pub returns-in-Ok : goal.returns-in-Ok
returns-in-Ok c = λ logs. begin_dump_done c.args.live.now _ logs c.args.time c.args.packed c.args.body
    c.in-Ok.field-0 c.in-Ok.ensures.begun

pub returns-in-Err : goal.returns-in-Err
returns-in-Err c = λ logs. begin_dump_refused c.args.live.now logs c.args.time c.args.packed c.args.body
    c.in-Err.why _ c.cause.ensures c.in-Err.ensures.refused
