-- The nearest codeword is near, is the only one, and is there if one is near. By `Laws`.
use Rattle.code_laws.proofs.Laws.{nearest_is as law}
use Rattle.code_laws.proofs.nearest_is.Goals as goal

pub returns : goal.returns
returns c = law
