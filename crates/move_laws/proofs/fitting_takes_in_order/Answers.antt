-- The logs that a move carries over come to their zones in order, at most one to a zone. By
-- `Places`.
use Rattle.move_laws.proofs.Places.{fitting_takes_in_order as law}
use Rattle.move_laws.proofs.fitting_takes_in_order.Goals as goal

pub returns : goal.returns
returns c = law
