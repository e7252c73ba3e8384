-- A record for each source so far. For the loop of `held_records`.
use Rattle.std.proofs.Common.{◌≡◌, map, take}
use Rattle.prz_read.specs.Saving.{saved}
use Rattle.zone_spec.specs.RecordsHeld.{record_held}
use Rattle.pstore_records.specs.Walks.{listed_in}
use Rattle.pstore_records.proofs.holding.held_records.Given as goal

abbrev pub invariant-loop-source : goal.invariant-loop-source
invariant-loop-source l = l.records.items ≡ map (record_held (saved l.logs))
    (map (listed_in (saved l.logs)) (take l.source-index l.source-items))
