-- An image of which nothing is known makes a sound state. By `Operations`.
use Rattle.machine_laws.proofs.Operations.{fresh_is_sound as law}
use Rattle.machine_laws.proofs.fresh_is_sound.Goals as goal

pub returns : goal.returns
returns c = law
