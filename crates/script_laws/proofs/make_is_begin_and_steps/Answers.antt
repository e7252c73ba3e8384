-- A call is made by its begin and the steps that are left. By `Steps`.
use Rattle.script_laws.proofs.Steps.{make_is_begin_and_steps as law}
use Rattle.script_laws.proofs.make_is_begin_and_steps.Goals as goal

pub returns : goal.returns
returns c = law
