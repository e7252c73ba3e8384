-- The logs that `read_logs` gives are those that a boot of the image would save.
use Rattle.commands.proofs.FirstBoot.{saved_from_read}
use Rattle.commands.proofs.records.read_logs.Goals as goal

pub returns-in-Ok-logs-clause-read : goal.returns-in-Ok-logs-clause-read
returns-in-Ok-logs-clause-read g c =
    saved_from_read _ _ c.mem.result _ c.in-Ok.bytes.items c.in-Ok-fresh_store.off c.in-Ok-logs.logs c.mem.ensures
    c.in-Ok.ensures.ok.1 c.in-Ok-fresh_store.ensures c.in-Ok-logs.ensures.logs
