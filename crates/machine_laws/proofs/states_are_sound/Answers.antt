-- Every state that a session reaches is sound: live zones hold what they were told or a flight's
-- image, and so did each zone at its stop. By `Operations`.
use Rattle.machine_laws.proofs.Operations.{states_are_sound as law}
use Rattle.machine_laws.proofs.states_are_sound.Goals as goal

pub returns : goal.returns
returns c = law
