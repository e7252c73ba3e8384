-- The number is that of the zone's flight, and 0 if the layout lacks the zone. For `left`.
use Rattle.ram_generator.proofs.SessionCalls.{left_there, left_nowhere}
use Rattle.ram_generator.proofs.calls.left.Goals as goal

pub returns-in-Ok : goal.returns-in-Ok
returns-in-Ok c = left_there c.args.live.now c.args.zone c.in-Ok.left c.in-Ok.ensures.left

pub returns-in-Err : goal.returns-in-Err
returns-in-Err c = left_nowhere c.args.live.now c.args.zone _ c.in-Err.ensures.refused
