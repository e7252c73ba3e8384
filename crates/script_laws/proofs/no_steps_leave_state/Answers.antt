-- No steps of a flight leave a sound state as it is. By `Steps`.
use Rattle.script_laws.proofs.Steps.{no_steps_leave_state as law}
use Rattle.script_laws.proofs.no_steps_leave_state.Goals as goal

pub returns : goal.returns
returns c = law
