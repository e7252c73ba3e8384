-- The saved logs that a move carries over list the records that fit, as they were listed, and no
-- other. By `ListedLogs`.
use Rattle.move_laws.proofs.ListedLogs.{fitting_lists_what_fits as law}
use Rattle.move_laws.proofs.fitting_lists_what_fits.Goals as goal

pub returns : goal.returns
returns c = law
