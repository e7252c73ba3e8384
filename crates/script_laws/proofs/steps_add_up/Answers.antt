-- Some steps of a flight and then one more are so many and one. By `Steps`.
use Rattle.script_laws.proofs.Steps.{steps_add_up as law}
use Rattle.script_laws.proofs.steps_add_up.Goals as goal

pub returns : goal.returns
returns c = law
