-- After a script on a shared zone that ends with no call open, the zone reads the last bytes of
-- its log before the script and of all payloads that the lines reserve. By `SharedScripts`.
use Rattle.script_laws.proofs.SharedScripts.{full_log_read}
use Rattle.script_laws.proofs.shared_scripts_read_full_log.Goals as goal

pub returns : goal.returns
returns c = full_log_read
