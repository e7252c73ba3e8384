-- The logs are those of the first `i` zones. For the loop of `read_logs`.
use Rattle.ramoops_layout.specs.Laid.{zones_of}
use Rattle.ramoops.proofs.BootReading.{LogsTo}
use Rattle.ramoops.proofs.booting.read_logs.Given as goal

abbrev pub invariant-loop-i : goal.invariant-loop-i
invariant-loop-i l = LogsTo (zones_of l.layout) l.spans.spans l.i l.logs
