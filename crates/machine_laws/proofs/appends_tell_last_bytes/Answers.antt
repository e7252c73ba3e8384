-- Appends tell the last bytes of all that they wrote. By `Sessions`.
use Rattle.machine_laws.proofs.Sessions.{appends_tell_last_bytes as law}
use Rattle.machine_laws.proofs.appends_tell_last_bytes.Goals as goal

pub returns : goal.returns
returns c = law
