-- A boot after a move lists the records that fit, as they were listed, and no other. By `Order`.
use Rattle.move_laws.proofs.Order.{move_lists_what_fits as law}
use Rattle.move_laws.proofs.move_lists_what_fits.Goals as goal

pub returns : goal.returns
returns c = law
