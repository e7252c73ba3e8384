-- A flip changes one byte, and nothing of what is known of a zone. By `Sessions`.
use Rattle.machine_laws.proofs.Sessions.{flip_changes_one_byte as law}
use Rattle.machine_laws.proofs.flip_changes_one_byte.Goals as goal

pub returns : goal.returns
returns c = law
