-- The cursor so far, over the dump zones left, is that over all. For the loop of `cursor_of`.
use Rattle.std.proofs.Common.{◌≡◌, drop}
use Rattle.std.specs.List.{fold}
use Rattle.psz_spec.specs.Cursor.{with_zone, first_cursor}
use Rattle.psz_read.specs.Runs.{run_zones}
use Rattle.psz_read.proofs.cursor.cursor_of.Given as goal

abbrev pub invariant-loop-index : goal.invariant-loop-index
invariant-loop-index l = fold (with_zone l.machine l.image) l.cursor (drop l.index (run_zones l.run))
    ≡ fold (with_zone l.machine l.image) first_cursor (run_zones l.run)
