-- Each log is read back. By `ReadBack`.
use Rattle.log_region.proofs.ReadBack.{logs_read}
use Rattle.log_region.proofs.laws.logs_are_read_back.Goals as goal

pub returns : goal.returns
returns c = logs_read
