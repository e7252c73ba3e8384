-- A line whose text can't be printed is done all the same, and the output has a front of the text.
-- For `play_line`.
use Rattle.ram_session.proofs.playing.play_line.Goals as goal

pub returns-in-Err-clause-played : goal.returns-in-Err-clause-played
returns-in-Err-clause-played g c = (
  c.in-Err.ensures.cause.failed,
  record {
    new = c.in-Ok.done.0;
    text = c.in-Ok.done.1.items;
    done = c.in-Ok.ensures.done;
    put = rw c.deref.ensures.value at c.in-Err.ensures.bytes;
  },
)
