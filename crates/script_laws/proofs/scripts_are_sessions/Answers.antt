-- A script on the block store is the session of its lines' operations. By `BlkScripts`.
use Rattle.script_laws.proofs.BlkScripts.{scripts_are}
use Rattle.script_laws.proofs.scripts_are_sessions.Goals as goal

pub returns : goal.returns
returns c = scripts_are
