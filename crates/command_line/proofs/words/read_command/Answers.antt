-- The command of two words or more
use Rattle.command_line.proofs.WordRequests.{asked_from}
use Rattle.command_line.proofs.words.read_command.Goals as goal

pub returns-in-len2-up : goal.returns-in-len2-up
returns-in-len2-up c = asked_from c.args.words.now c.word-item.result c.as_str.result.now c.asked_by.result
    c.in-len2-up.len_at_least c.word-item.is c.as_str.ensures.value c.asked_by.ensures
