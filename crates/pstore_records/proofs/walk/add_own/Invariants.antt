-- The sources of the first `i` zones stand after those that were there. For the loop of `add_own`.
use Rattle.std.proofs.Common.{◌++◌, take, List}
use Rattle.zone_spec.specs.Records.{Listed}
use Rattle.prz_read.specs.Saving.{saved}
use Rattle.pstore_records.specs.Walks.{AreSources, own_records}
use Rattle.pstore_records.proofs.walk.add_own.Given as goal

abbrev pub invariant-loop-i : goal.invariant-loop-i
invariant-loop-i l =
    (front : List Listed) → AreSources (saved l.logs) l.initial.sources.items front
    → AreSources (saved l.logs) l.sources.items (front ++ own_records l.kind (take l.i (saved l.logs)))
