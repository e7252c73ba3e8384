-- The logs that a boot finds are of bytes, and of one at least. By `SavedLogs`.
use Rattle.move_laws.proofs.SavedLogs.{boots_have_bytes as law}
use Rattle.move_laws.proofs.boots_have_bytes.Goals as goal

pub returns : goal.returns
returns c = law
