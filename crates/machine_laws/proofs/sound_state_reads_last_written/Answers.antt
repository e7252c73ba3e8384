-- In every sound state each idle zone within bounds reads what it was told, and a cut zone differs
-- in its reported parts alone. By `LastWritten`.
use Rattle.machine_laws.proofs.LastWritten.{sound_state_reads_last_written as law}
use Rattle.machine_laws.proofs.sound_state_reads_last_written.Goals as goal

pub returns : goal.returns
returns c = law
