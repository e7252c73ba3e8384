-- The call ends as its body does.
use Rattle.oopsbox_c.proofs.calls.oopsbox_zone.Goals as goal

pub returns : goal.returns
returns c = (c.read_zone_in-end.result, c.status.ensures, c.read_zone_in-end.ensures)
