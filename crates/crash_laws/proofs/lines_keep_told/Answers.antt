-- A line that leaves a dump zone alone keeps what the zone was told; a stop and a boot do too. By
-- `DumpZoneStays`.
use Rattle.crash_laws.proofs.DumpZoneStays.{lines_keep}
use Rattle.crash_laws.proofs.lines_keep_told.Goals as goal

pub returns : goal.returns
returns c = lines_keep
