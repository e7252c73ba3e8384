-- The time is the third word without its low byte. For `Entry::time`.
use Rattle.std.proofs.Common.{arith}
use Rattle.ftrace_zone.proofs.Words.{entry_time-bytes}
use Rattle.ftrace_zone.proofs.Entry.time.Goals as goal

pub returns-clause-time : goal.returns-clause-time
returns-clause-time c = entry_time-bytes c.args.self.now (omega arith)
