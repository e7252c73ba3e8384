-- A line ends at its newline, or with the text. For `line_len`.
use Rattle.death.proofs.Ends.{ended, unended}
use Rattle.death.proofs.marks.line_len.Goals as goal

pub returns-in-Some-clause-len : goal.returns-in-Some-clause-len
returns-in-Some-clause-len c = ended c.args.text.now c.in-Some.len c.in-Some.ensures

pub returns-in-None-clause-len : goal.returns-in-None-clause-len
returns-in-None-clause-len c = unended c.args.text.now c.in-None.ensures
