-- The runs' numbers make that of all zones. For `zone_count`.
use Rattle.std.proofs.Common.{◌+◌, ◌*◌, ◌≤◌, arith}
use Rattle.psz_read.proofs.RunRoom.{sum_all, sum_few}
use Rattle.psz_read.proofs.zones.zone_count.Goals as goal

pub overflow_add-result : goal.overflow_add-result
overflow_add-result c = omega (
  arith,
  sum_few c.args.sizes.now c.pmsg_run-pmsg.result c.console_run-console.result c.ftrace_run-ftrace.result
      c.dump_run-dump.result c.requires c.pmsg_run-pmsg.ensures c.console_run-console.ensures
      c.ftrace_run-ftrace.ensures
      c.dump_run-dump.ensures,
)

pub overflow_add-result-2 : goal.overflow_add-result-2
overflow_add-result-2 c = omega (
  arith,
  sum_few c.args.sizes.now c.pmsg_run-pmsg.result c.console_run-console.result c.ftrace_run-ftrace.result
      c.dump_run-dump.result c.requires c.pmsg_run-pmsg.ensures c.console_run-console.ensures
      c.ftrace_run-ftrace.ensures
      c.dump_run-dump.ensures,
)

pub overflow_add-result-3 : goal.overflow_add-result-3
overflow_add-result-3 c = omega (
  arith,
  sum_few c.args.sizes.now c.pmsg_run-pmsg.result c.console_run-console.result c.ftrace_run-ftrace.result
      c.dump_run-dump.result c.requires c.pmsg_run-pmsg.ensures c.console_run-console.ensures
      c.ftrace_run-ftrace.ensures
      c.dump_run-dump.ensures,
)

pub returns-clause-all : goal.returns-clause-all
returns-clause-all c = sum_all c.args.sizes.now c.pmsg_run-pmsg.result c.console_run-console.result
    c.ftrace_run-ftrace.result
    c.dump_run-dump.result c.pmsg_run-pmsg.ensures c.console_run-console.ensures c.ftrace_run-ftrace.ensures
    c.dump_run-dump.ensures

pub returns-clause-few : goal.returns-clause-few
returns-clause-few c = sum_few c.args.sizes.now c.pmsg_run-pmsg.result c.console_run-console.result
    c.ftrace_run-ftrace.result
    c.dump_run-dump.result c.requires c.pmsg_run-pmsg.ensures c.console_run-console.ensures c.ftrace_run-ftrace.ensures
    c.dump_run-dump.ensures
