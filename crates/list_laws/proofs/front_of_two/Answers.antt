-- A front of two lists end to end is a front of the first, and then one of the second. By
-- `Elements`.
use Rattle.list_laws.proofs.Elements.{take-append}
use Rattle.list_laws.proofs.front_of_two.Goals as goal

pub returns : goal.returns
returns c = λ n xs ys. take-append n xs ys
