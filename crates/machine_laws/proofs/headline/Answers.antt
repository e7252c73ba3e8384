-- After any session each idle zone within bounds reads what it was told, and a cut zone differs in
-- its touched blocks and header alone. By `LastWritten`.
use Rattle.machine_laws.proofs.LastWritten.{headline as law}
use Rattle.machine_laws.proofs.headline.Goals as goal

pub returns : goal.returns
returns c = law
