-- If an append to a ring that is not full answers a fault within its first write, that is a
-- harmless call of a session. By `EarlyWrites`.
use Rattle.blk_laws.proofs.EarlyWrites.{first-write-faults}
use Rattle.blk_laws.proofs.first_write_faults_are_harmless.Goals as goal

pub returns : goal.returns
returns c = first-write-faults
