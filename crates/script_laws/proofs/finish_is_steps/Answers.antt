-- A flight is finished by as many steps as stores are left. By `Steps`.
use Rattle.script_laws.proofs.Steps.{finish_is_steps as law}
use Rattle.script_laws.proofs.finish_is_steps.Goals as goal

pub returns : goal.returns
returns c = law
