-- The product of the definitions is the one by shifts. By `Laws`.
use Rattle.code_laws.proofs.Laws.{product_is as law}
use Rattle.code_laws.proofs.product_by_shifts.Goals as goal

pub returns : goal.returns
returns c = law
