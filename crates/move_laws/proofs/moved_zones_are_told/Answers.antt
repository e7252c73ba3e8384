-- Each zone of a moved image is told the log that was found of it, or nothing, and stands as at
-- its stop, with no cut. By `MovedState`.
use Rattle.move_laws.proofs.MovedState.{moved_zones_are_told as law}
use Rattle.move_laws.proofs.moved_zones_are_told.Goals as goal

pub returns : goal.returns
returns c = law
