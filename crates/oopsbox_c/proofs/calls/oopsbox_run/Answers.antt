-- The call ends as its body does.
use Rattle.oopsbox_c.proofs.calls.oopsbox_run.Goals as goal

pub returns : goal.returns
returns c = (c.run_in-end.result, c.status.ensures, c.run_in-end.ensures)
