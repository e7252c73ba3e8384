-- The zones of any two lists of parameters come in one order. By `Ranks`.
use Rattle.move_laws.proofs.Rising.{layouts_come_in_order as law}
use Rattle.move_laws.proofs.layouts_come_in_order.Goals as goal

pub returns : goal.returns
returns c = law
