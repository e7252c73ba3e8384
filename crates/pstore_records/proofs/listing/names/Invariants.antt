-- A name for each source so far. For the loop of `names`.
use Rattle.std.proofs.Common.{◌≡◌, map, take}
use Rattle.zone_spec.specs.Records.{Listed}
use Rattle.prz_read.specs.Saving.{saved}
use Rattle.pstore_records.specs.Walks.{listed_in}
use Rattle.pstore_records.proofs.listing.names.Given as goal

abbrev pub invariant-loop-source : goal.invariant-loop-source
invariant-loop-source l = l.names.items ≡ map (λ (r : Listed). r.name)
    (map (listed_in (saved l.logs)) (take l.source-index l.source-items))
