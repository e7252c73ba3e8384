-- What `Live::finish` leaves or refuses holds of each state that the machine stands for. For
-- `finish`.
use Rattle.ram_session.proofs.calls.finish.Goals as goal

pub returns-in-Ok-clause-finished : goal.returns-in-Ok-clause-finished
returns-in-Ok-clause-finished c layout mem s lies stands state = c.in-Ok.ensures.finished layout mem s stands

pub returns-in-Err-clause-refused : goal.returns-in-Err-clause-refused
returns-in-Err-clause-refused c layout mem s lies stands state = c.in-Err.ensures.refused layout mem s stands
