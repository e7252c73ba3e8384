-- A script on the ram store is the session of its lines' operations, up to the first refused line.
-- By `RamScripts`.
use Rattle.script_laws.proofs.RamScripts.{ram_scripts_are_sessions as law}
use Rattle.script_laws.proofs.ram_scripts_are_sessions.Goals as goal

pub returns : goal.returns
returns c = law
