-- The logs are those that a boot saves, and the machine comes back as it was. For `Off::logs`.
use Rattle.std.proofs.Common.{length, ap, ◌∙◌}
use Rattle.ramoops.proofs.Boots.{open_fits, open_whole, open_closed, open_rests, logs_saved}
use Rattle.ramoops.proofs.off.Off.logs.Goals as goal

pub logs-requires : goal.logs-requires
logs-requires c = open_fits c.args.self c.in_ok-open.open c.in_ok-open.ensures.«open»

pub close-requires-clause-size : goal.close-requires-clause-size
close-requires-clause-size c = ap length (open_whole c.args.self c.in_ok-open.open c.in_ok-open.ensures.«open»)
    ∙ c.in_ok-open.ensures.«open».size

pub close-requires-clause-resting : goal.close-requires-clause-resting
close-requires-clause-resting c = open_rests c.args.self c.in_ok-open.open c.in_ok-open.ensures.«open»

pub close-requires-in-Err-clause-size : goal.close-requires-in-Err-clause-size
close-requires-in-Err-clause-size c = ap length (open_whole c.args.self c.in_ok-open.open c.in_ok-open.ensures.«open»)
    ∙ c.in_ok-open.ensures.«open».size

pub close-requires-in-Err-clause-resting : goal.close-requires-in-Err-clause-resting
close-requires-in-Err-clause-resting c = open_rests c.args.self c.in_ok-open.open c.in_ok-open.ensures.«open»

pub returns-in-Ok-clause-logs : goal.returns-in-Ok-clause-logs
returns-in-Ok-clause-logs c = logs_saved c.args.self c.in_ok-open.open c.in_ok-open.ensures.«open» c.in-Ok.logs
    c.in-Ok.ensures

pub returns-in-Ok-clause-unchanged : goal.returns-in-Ok-clause-unchanged
returns-in-Ok-clause-unchanged c = c.close.ensures ∙ open_closed c.args.self c.in_ok-open.open
    c.in_ok-open.ensures.«open»

pub returns-in-Err-clause-refused : goal.returns-in-Err-clause-refused
returns-in-Err-clause-refused c = c.close-in-Err.ensures ∙ open_closed c.args.self c.in_ok-open.open
    c.in_ok-open.ensures.«open»
