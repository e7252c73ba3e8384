-- A fault in the front is that of the script. For `read_end`.
use Rattle.script.proofs.Loop.{fault_of_all}
use Rattle.script.proofs.reading.read_end.Goals as goal

pub returns-in-Err : goal.returns-in-Err
returns-in-Err c = λ given h. fault_of_all given c.in-Err.fault (c.in-Err.ensures.read given h)
