-- Three words of eight bytes are the 24 bytes of the entry. For `entry_at`.
use Rattle.ftrace_zone.proofs.Words.{entry_bytes-words}
use Rattle.ftrace_zone.proofs.entry_at.Goals as goal

pub returns : goal.returns
returns c = entry_bytes-words (record {
  addr = c.word_at.result;
  parent = c.word_at-2.result;
  word = c.word_at-3.result;
}) c.args.log.now c.args.at c.word_at.ensures c.word_at-2.ensures c.word_at-3.ensures
