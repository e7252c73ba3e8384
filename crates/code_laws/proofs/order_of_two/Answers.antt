-- 2 has order 255: its powers are all bytes but 0. By `Ring`.
use Rattle.code_laws.proofs.Ring.{order_of_two as law}
use Rattle.code_laws.proofs.order_of_two.Goals as goal

pub returns : goal.returns
returns c = law
