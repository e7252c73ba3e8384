-- The other rings lie inside 128 MiB. For `ftrace_run`.
use Rattle.std.proofs.Common.{arith}
use Rattle.psz_read.proofs.RunRoom.{HasRoom, has_room}
use Rattle.psz_read.proofs.zones.ftrace_run.Goals as goal

pub overflow_add-result : goal.overflow_add-result
overflow_add-result c =
    let r : HasRoom c.args.sizes.now = has_room c.args.sizes.now c.requires in omega (arith, r.most, r.rings)
