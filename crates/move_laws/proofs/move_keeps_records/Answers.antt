-- A boot of what a move makes of an image lists the records of that image that fit, and no other.
-- By `SavedLogs`.
use Rattle.move_laws.proofs.SavedLogs.{move_keeps_records as law}
use Rattle.move_laws.proofs.move_keeps_records.Goals as goal

pub returns : goal.returns
returns c = law
