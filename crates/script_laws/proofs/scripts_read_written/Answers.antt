-- After a script the next boot reads of each idle zone within bounds the last bytes that its
-- operations wrote, as many as it holds. By `RamScripts`.
use Rattle.script_laws.proofs.RamScripts.{scripts_read_written as law}
use Rattle.script_laws.proofs.scripts_read_written.Goals as goal

pub returns : goal.returns
returns c = law
