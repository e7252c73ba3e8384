-- A line whose text can't be printed is done all the same, and the output has a front of the text.
-- For `play_line`.
use Rattle.blk_session.proofs.playing.play_line.Goals as goal

pub returns-in-Err-put-clause-played : goal.returns-in-Err-put-clause-played
returns-in-Err-put-clause-played g c = (
  c.in-Err-put.ensures.cause.failed,
  record {
    new = c.in-Ok.done.0;
    text = c.in-Ok.done.1.items;
    done = c.in-Ok.ensures.done;
    put = rw c.deref.ensures.value at c.in-Err-put.ensures.bytes;
  },
)
