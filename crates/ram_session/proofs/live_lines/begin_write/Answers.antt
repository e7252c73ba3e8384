-- An append begun or refused is the line `begin write`. For `begin_write`.
use Rattle.ram_session.proofs.LiveLines.{begin_write_done, begin_write_refused}
use Rattle.ram_session.proofs.live_lines.begin_write.Goals as goal

pub returns-in-Ok : goal.returns-in-Ok
returns-in-Ok c = λ logs. begin_write_done c.args.live.now _ logs c.args.zone c.args.payload c.in-Ok.field-0
    c.in-Ok.ensures.begun

pub returns-in-Err : goal.returns-in-Err
returns-in-Err c = λ logs. begin_write_refused c.args.live.now logs c.args.zone c.args.payload c.in-Err.why _
    c.cause.ensures c.in-Err.ensures.refused
