-- A refused finish is the line `finish` refused. For `finish`.
use Rattle.ram_session.proofs.LiveLines.{finish_refused}
use Rattle.ram_session.proofs.live_lines.finish.Goals as goal

pub returns-in-Err : goal.returns-in-Err
returns-in-Err c = λ logs. finish_refused c.args.live.now logs c.args.zone c.in-Err.why _ c.cause.ensures
    c.in-Err.ensures.refused
