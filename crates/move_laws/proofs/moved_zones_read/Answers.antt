-- After damage each zone of a moved image that is within bounds reads the log that was found of
-- it, or nothing. By `MovedState`.
use Rattle.move_laws.proofs.MovedState.{moved_zones_read as law}
use Rattle.move_laws.proofs.moved_zones_read.Goals as goal

pub returns : goal.returns
returns c = law
