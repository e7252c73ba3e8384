-- After any lines of a script on the block store, a boot lists the reading of the store's bytes as
-- they then stand. By `BlkScripts`.
use Rattle.script_laws.proofs.BlkScripts.{boot_lists}
use Rattle.script_laws.proofs.every_boot_lists_reading.Goals as goal

pub returns : goal.returns
returns c = boot_lists
