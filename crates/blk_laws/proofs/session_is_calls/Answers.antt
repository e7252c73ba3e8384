-- The lines of a session that meet no fault are calls that are all done. By `Lines`.
use Rattle.blk_laws.proofs.Lines.{session-is-calls}
use Rattle.blk_laws.proofs.session_is_calls.Goals as goal

pub returns : goal.returns
returns c = session-is-calls
