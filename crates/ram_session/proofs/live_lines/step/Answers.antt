-- A refused step is the line `step` refused. For `step`.
use Rattle.ram_session.proofs.LiveLines.{step_refused}
use Rattle.ram_session.proofs.live_lines.step.Goals as goal

pub returns-in-Err : goal.returns-in-Err
returns-in-Err c = λ logs. step_refused c.args.live.now logs c.args.zone c.args.count c.in-Err.why _ c.cause.ensures
    (rw c.from.ensures at c.in-Err.ensures.refused)
