-- The zones have no more than was asked for. For `ftrace_taken`.
use Rattle.std.proofs.Common.{◌*◌, ◌≤◌, arith}
use Rattle.psz_read.proofs.RunRoom.{HasRoom, has_room, taken_fits}
use Rattle.psz_read.proofs.zones.ftrace_taken.Goals as goal

pub overflow_mul-result : goal.overflow_mul-result
overflow_mul-result c =
    let e : c.ftrace_count-count.result * c.ftrace_each-each.result ≤ c.args.sizes.now.ftrace =
    taken_fits c.args.sizes.now c.ftrace_count-count.result c.ftrace_each-each.result c.ftrace_count-count.ensures
    c.ftrace_each-each.ensures in
    let r : HasRoom c.args.sizes.now = has_room c.args.sizes.now c.requires in
    omega (arith, e, r.most, r.rings)
