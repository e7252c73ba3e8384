-- A moved image makes a sound state. By `MovedState`.
use Rattle.move_laws.proofs.MovedState.{moved_image_is_sound as law}
use Rattle.move_laws.proofs.moved_image_is_sound.Goals as goal

pub returns : goal.returns
returns c = law
