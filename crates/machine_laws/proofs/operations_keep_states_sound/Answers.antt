-- Every operation leaves a sound state sound. By `Operations`.
use Rattle.machine_laws.proofs.Operations.{operations_keep_states_sound as law}
use Rattle.machine_laws.proofs.operations_keep_states_sound.Goals as goal

pub returns : goal.returns
returns c = law
