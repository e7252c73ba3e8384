-- Of nothing no line is read. For `Reading::new`.
use Rattle.script.proofs.Loop.{at_start}
use Rattle.script.proofs.reading.Reading.new.Goals as goal

pub returns : goal.returns
returns c = rw (c.new.ensures.items, c.new-2.ensures.items) at_start
