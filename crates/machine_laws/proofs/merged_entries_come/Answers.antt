-- Each entry of merged ftrace logs is a group of 24 bytes of one of the logs. By `MergedEntries`.
use Rattle.machine_laws.proofs.MergedEntries.{merged_entries_come as law}
use Rattle.machine_laws.proofs.merged_entries_come.Goals as goal

pub returns : goal.returns
returns c = law
