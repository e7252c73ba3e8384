-- The records of the zones so far stand after those that were there. For the loop of `add_kind`.
use Rattle.std.proofs.Common.{◌≡◌, ◌++◌, take, map}
use Rattle.psz_spec.specs.Records.{records_of}
use Rattle.storage_spec.specs.Records.{held_of}
use Rattle.storage_zones.proofs.listing.add_kind.Given as goal

abbrev pub invariant-loop-zone : goal.invariant-loop-zone
invariant-loop-zone l =
    l.records.items ≡ l.initial.records.items ++ map held_of (records_of l.machine l.image l.kind (take l.zone-index l.zones))
