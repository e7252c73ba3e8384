-- Each dump zone moves the cursor as it is defined. For `cursor_of`.
use Rattle.std.proofs.Common.{◌≡◌, arith, refl, ap, drop, List}
use Rattle.std.specs.List.{fold}
use Rattle.psz_spec.specs.Cursor.{with_zone, first_cursor}
use Rattle.psz_read.specs.Runs.{run_zones}
use Rattle.psz_read.proofs.RunRoom.{fits_dump}
use Rattle.psz_read.proofs.CursorSteps.{cursor_more, cursor_end}
use Rattle.psz_read.proofs.cursor.cursor_of.Goals as goal

pub next_cursor-next-requires-clause-room : goal.next_cursor-next-requires-clause-room
next_cursor-next-requires-clause-room c =
    fits_dump c.args.sizes.now c.dump_run-run.result c.requires c.dump_run-run.ensures

pub loop-index-preserved : goal.loop-index-preserved
loop-index-preserved c =
    cursor_more c.args.machine c.args.image.now c.dump_run-run.result c.loop-index.index c.loop-index.cursor
    c.next_cursor-next.result _ (omega arith) c.next_cursor-next.ensures c.loop-index.invariant

pub returns : goal.returns
returns c = cursor_end c.args.machine c.args.image.now c.args.sizes.now c.dump_run-run.result c.loop-index.index
    c.loop-index.cursor c.dump_run-run.ensures (omega arith) c.loop-index.invariant
