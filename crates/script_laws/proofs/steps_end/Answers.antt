-- If no further step of a flight can be made, further steps change nothing. By `Steps`.
use Rattle.script_laws.proofs.Steps.{steps_end as law}
use Rattle.script_laws.proofs.steps_end.Goals as goal

pub returns : goal.returns
returns c = law
