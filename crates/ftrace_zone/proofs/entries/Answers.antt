-- The 24 bytes at the place are the next group. For the loop of `entries`.
use Rattle.std.proofs.Common.{◌%◌, length}
use Rattle.ftrace_zone.proofs.Groups.{groups-more}
use Rattle.ftrace_zone.proofs.entries.Goals as goal

pub loop-i-preserved : goal.loop-i-preserved
loop-i-preserved c =
    rw c.in_ok-push.ensures.items (groups-more c.loop-i.found.items c.entry_at.result c.args.log.now c.loop-i.i
    (length c.args.log.now % 24) c.loop-i.invariant c.entry_at.ensures)
