-- Every state that a script leads to is sound. By `SoundStates`.
use Rattle.script_laws.proofs.SoundStates.{states_sound}
use Rattle.script_laws.proofs.script_states_are_sound.Goals as goal

pub returns : goal.returns
returns c = states_sound
