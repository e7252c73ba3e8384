-- Where each byte of a log comes from. By `Logs`.
use Rattle.machine_laws.proofs.Logs.{log_bytes_come as law}
use Rattle.machine_laws.proofs.log_bytes_come.Goals as goal

pub returns : goal.returns
returns c = law
