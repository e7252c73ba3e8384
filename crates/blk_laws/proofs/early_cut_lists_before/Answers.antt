-- An append to a ring that is not full, cut before its first header, changes nothing: the next
-- loading lists of that ring what it listed before. By `CutSessions`.
use Rattle.blk_laws.proofs.CutSessions.{early-cut}
use Rattle.blk_laws.proofs.early_cut_lists_before.Goals as goal

pub returns : goal.returns
returns c = early-cut
