-- After a crash that is done, a stop and a boot, the crash is listed with its whole body. By
-- `Scripts`.
use Rattle.crash_laws.proofs.Scripts.{next_boot}
use Rattle.crash_laws.proofs.next_boot_lists_crash.Goals as goal

pub returns : goal.returns
returns c = next_boot c.crashes_are_told_whole.ensures
