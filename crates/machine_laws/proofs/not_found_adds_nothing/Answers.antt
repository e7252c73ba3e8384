-- A zone that was not found adds nothing to the records. By `Logs`.
use Rattle.machine_laws.proofs.Logs.{not_found_adds_nothing as law}
use Rattle.machine_laws.proofs.not_found_adds_nothing.Goals as goal

pub returns : goal.returns
returns c = law
