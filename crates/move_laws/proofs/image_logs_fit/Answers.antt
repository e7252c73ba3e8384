-- The logs of an image that a move carries over fit the zones of their names. By `SavedLogs`.
use Rattle.move_laws.proofs.SavedLogs.{image_logs_fit as law}
use Rattle.move_laws.proofs.image_logs_fit.Goals as goal

pub returns : goal.returns
returns c = law
