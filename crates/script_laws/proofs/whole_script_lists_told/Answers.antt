-- If no byte was dropped since the last boot, the next one lists of each ring the last bytes that
-- the script told it. By `BlkScripts`.
use Rattle.script_laws.proofs.BlkScripts.{script_lists}
use Rattle.script_laws.proofs.whole_script_lists_told.Goals as goal

pub returns : goal.returns
returns c = script_lists
