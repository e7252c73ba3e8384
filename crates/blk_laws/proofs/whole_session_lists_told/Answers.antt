-- With no call cut or failed since the last loading, the next one lists of each ring the last
-- bytes that it was told. By `Sessions`.
use Rattle.blk_laws.proofs.Sessions.{whole-session}
use Rattle.blk_laws.proofs.whole_session_lists_told.Goals as goal

pub returns : goal.returns
returns c = whole-session
