-- A zone whose header reads without its signature has no log. By `Logs`.
use Rattle.machine_laws.proofs.Logs.{unsigned_adds_nothing as law}
use Rattle.machine_laws.proofs.unsigned_adds_nothing.Goals as goal

pub returns : goal.returns
returns c = law
