-- What is printed is read as those lines and no others. By `PrintedRead`.
use Rattle.script.proofs.PrintedRead.{printed_read}
use Rattle.script.proofs.printing.printed_is_read.Goals as goal

pub returns : goal.returns
returns c = printed_read
