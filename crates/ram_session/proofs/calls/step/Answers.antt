-- What `Live::advance` leaves or refuses holds of each state that the machine stands for. For
-- `step`.
use Rattle.ram_session.proofs.calls.step.Goals as goal

pub returns-in-Ok-clause-stepped : goal.returns-in-Ok-clause-stepped
returns-in-Ok-clause-stepped c layout mem s lies stands state = c.in-Ok.ensures.advanced layout mem s stands

pub returns-in-Err-clause-refused : goal.returns-in-Err-clause-refused
returns-in-Err-clause-refused c layout mem s lies stands state = c.in-Err.ensures.refused layout mem s stands
