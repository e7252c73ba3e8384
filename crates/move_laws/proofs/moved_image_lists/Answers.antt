-- A boot of a moved image lists the records of the logs that its zones were told. By `Order`.
use Rattle.move_laws.proofs.Order.{moved_image_lists as law}
use Rattle.move_laws.proofs.moved_image_lists.Goals as goal

pub returns : goal.returns
returns c = law
