-- By `PartRecords`. For `parts_are_records`.
use Rattle.psz_read.proofs.PartRecords.{parts_are}
use Rattle.psz_read.proofs.laws.parts_are_records.Goals as goal

pub returns : goal.returns
returns c = parts_are
