-- The logs that a move carries over fit the zones of their names. By `Fits`.
use Rattle.move_laws.proofs.Fits.{fitting_logs_fit as law}
use Rattle.move_laws.proofs.fitting_logs_fit.Goals as goal

pub returns : goal.returns
returns c = law
