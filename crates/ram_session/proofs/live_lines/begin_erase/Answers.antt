-- A refused erasure is the line `begin erase` refused. For `begin_erase`.
use Rattle.ram_session.proofs.LiveLines.{begin_erase_refused}
use Rattle.ram_session.proofs.live_lines.begin_erase.Goals as goal

pub returns-in-Err : goal.returns-in-Err
returns-in-Err c = λ logs. begin_erase_refused c.args.live.now logs c.args.zone c.in-Err.why _ c.cause.ensures
    c.in-Err.ensures.refused
