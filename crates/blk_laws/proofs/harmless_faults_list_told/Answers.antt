-- If the store failed only within dumps, or within the first data bytes of appends to rings that
-- were not full, the next loading lists what was told. By `Faults`.
use Rattle.blk_laws.proofs.Faults.{harmless-faults}
use Rattle.blk_laws.proofs.harmless_faults_list_told.Goals as goal

pub returns : goal.returns
returns c = harmless-faults
