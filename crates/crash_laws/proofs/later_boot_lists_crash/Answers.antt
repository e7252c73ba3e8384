-- After a crash, lines that leave its zone alone, and a boot, none of them refused, the crash is
-- listed with its whole body. By `Scripts`.
use Rattle.crash_laws.proofs.Scripts.{later_boot}
use Rattle.crash_laws.proofs.later_boot_lists_crash.Goals as goal

pub returns : goal.returns
returns c = later_boot c.crashes_are_told_whole.ensures
