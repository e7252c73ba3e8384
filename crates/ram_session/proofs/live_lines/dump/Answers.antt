-- A dump made or refused is the line `dump`. For `dump`.
use Rattle.ram_session.proofs.LiveLines.{dump_done, dump_refused}
use Rattle.ram_session.proofs.live_lines.dump.Goals as goal

pub returns-in-Ok : goal.returns-in-Ok
returns-in-Ok c = λ logs. dump_done c.args.live.now _ logs c.args.time c.args.packed c.args.body c.in-Ok.ensures.made

pub returns-in-Err : goal.returns-in-Err
returns-in-Err c = λ logs. dump_refused c.args.live.now logs c.args.time c.args.packed c.args.body c.in-Err.why _
    c.cause.ensures c.in-Err.ensures.refused
