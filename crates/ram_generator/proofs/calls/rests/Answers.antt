-- No call stands where none flies, and where there is no zone. For `rests`.
use Rattle.ram_generator.proofs.SessionCalls.{rests_there, rests_nowhere}
use Rattle.ram_generator.proofs.calls.rests.Goals as goal

pub returns-in-Ok : goal.returns-in-Ok
returns-in-Ok c = rests_there c.args.live.now c.args.zone c.in-Ok.flies c.in-Ok.ensures.flies

pub returns-in-Err : goal.returns-in-Err
returns-in-Err c = rests_nowhere c.args.live.now c.args.zone _ c.in-Err.ensures.refused
