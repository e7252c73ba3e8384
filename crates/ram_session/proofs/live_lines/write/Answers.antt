-- An append made or refused is the line `write`. For `write`.
use Rattle.ram_session.proofs.LiveLines.{write_done, write_refused}
use Rattle.ram_session.proofs.live_lines.write.Goals as goal

pub returns-in-Ok : goal.returns-in-Ok
returns-in-Ok c = λ logs. write_done c.args.live.now _ logs c.args.zone c.args.payload c.in-Ok.ensures.made

pub returns-in-Err : goal.returns-in-Err
returns-in-Err c = λ logs. write_refused c.args.live.now logs c.args.zone c.args.payload c.in-Err.why _ c.cause.ensures
    c.in-Err.ensures.refused
