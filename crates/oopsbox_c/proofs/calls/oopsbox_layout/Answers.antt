-- The call ends as its body does.
use Rattle.oopsbox_c.proofs.calls.oopsbox_layout.Goals as goal

pub returns : goal.returns
returns c = (c.lay_out-end.result, c.status.ensures, c.lay_out-end.ensures)
