-- Parity is the one list that makes a codeword. By `Laws`.
use Rattle.code_laws.proofs.Laws.{parity_is as law}
use Rattle.code_laws.proofs.parity_is.Goals as goal

pub returns : goal.returns
returns c = law
