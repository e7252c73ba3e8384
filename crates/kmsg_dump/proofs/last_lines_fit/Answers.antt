-- The last lines of the definition are the longest end of the log that fits. By `LastLines`.
use Rattle.kmsg_dump.proofs.LastLines.{last_lines_fit}
use Rattle.kmsg_dump.proofs.last_lines_fit.Goals as goal

pub returns : goal.returns
returns c = last_lines_fit
