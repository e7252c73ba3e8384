-- Behind the last dump zone comes the first. For `next_zone`.
use Rattle.std.proofs.Common.{◌∙◌}
use Rattle.psz_read.proofs.CursorSteps.{next_is}
use Rattle.psz_read.proofs.cursor.next_zone.Goals as goal

pub returns : goal.returns
returns c = c.wrapped.ensures
    ∙ next_is c.args.machine c.args.image.now c.args.sizes.now c.cursor_of-cursor.result c.dump_count-count.result
    c.cursor_of-cursor.ensures c.dump_count-count.ensures
