-- A division rounded up is a plain division with the divisor less one added. By `RoundingUp`.
use Rattle.list_laws.proofs.RoundingUp.{div_ceil_is}
use Rattle.list_laws.proofs.rounded_up.Goals as goal

pub returns : goal.returns
returns c = div_ceil_is
