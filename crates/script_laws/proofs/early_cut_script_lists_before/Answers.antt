-- A `write` to a ring that is not full, cut before its first header, changes nothing: the next
-- boot lists of that ring what it listed before. By `BlkScripts`.
use Rattle.script_laws.proofs.BlkScripts.{script_lists_before}
use Rattle.script_laws.proofs.early_cut_script_lists_before.Goals as goal

pub returns : goal.returns
returns c = script_lists_before
