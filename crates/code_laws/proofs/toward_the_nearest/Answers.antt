-- A word that went towards its nearest codeword keeps it. By `Toward`.
use Rattle.code_laws.proofs.Toward.{toward_is as law}
use Rattle.code_laws.proofs.toward_the_nearest.Goals as goal

pub returns : goal.returns
returns c = law
