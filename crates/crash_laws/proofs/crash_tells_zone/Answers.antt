-- A crash that is done leaves its zone idle, and told its time line and its whole body. By `DumpOfCrash`.
use Rattle.crash_laws.proofs.DumpOfCrash.{crash_tells}
use Rattle.crash_laws.proofs.crash_tells_zone.Goals as goal

pub returns : goal.returns
returns c = crash_tells c.crashes_are_told_whole.ensures
