-- Answer by answer
use Rattle.oopsbox_c.proofs.WholeCalls.{whole_flights}
use Rattle.oopsbox_c.proofs.laws.flights_are_whole.Goals as goal

pub returns : goal.returns
returns c = whole_flights
