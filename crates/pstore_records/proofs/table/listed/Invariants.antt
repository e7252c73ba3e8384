-- An entry for each source so far. For the loop of `listed`.
use Rattle.std.proofs.Common.{◌≡◌, map, take}
use Rattle.prz_read.specs.Saving.{saved}
use Rattle.pstore_records.specs.Tables.{entry_of}
use Rattle.pstore_records.specs.Walks.{listed_in}
use Rattle.pstore_records.proofs.table.listed.Given as goal

abbrev pub invariant-loop-source : goal.invariant-loop-source
invariant-loop-source l = l.entries.items ≡ map (entry_of (saved l.logs))
    (map (listed_in (saved l.logs)) (take l.source-index l.source-items))
