-- In every state of a session each zone is told the last bytes that were written to it since its
-- erasure, as many as it holds. By `WrittenLogs`.
use Rattle.history_laws.proofs.WrittenLogs.{told_is_written as law}
use Rattle.history_laws.proofs.told_is_written.Goals as goal

pub returns : goal.returns
returns c = law
