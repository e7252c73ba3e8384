-- A move for each source so far. For the loop of `moves`.
use Rattle.std.proofs.Common.{◌≡◌, map, take}
use Rattle.ramoops_layout.specs.Laid.{zones_of}
use Rattle.prz_read.specs.Saving.{saved}
use Rattle.pstore_records.specs.Moves.{move_of}
use Rattle.pstore_records.specs.Walks.{listed_in}
use Rattle.pstore_records.proofs.moving.moves.Given as goal

abbrev pub invariant-loop-source : goal.invariant-loop-source
invariant-loop-source l = l.moves.items ≡ map (move_of (zones_of l.layout) (saved l.logs))
    (map (listed_in (saved l.logs)) (take l.source-index l.source-items))
