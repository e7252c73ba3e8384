-- Different codewords differ in more places than there is parity. By `Laws`.
use Rattle.code_laws.proofs.Laws.{law_is as law}
use Rattle.code_laws.proofs.law_of_distance.Goals as goal

pub returns : goal.returns
returns c = law
