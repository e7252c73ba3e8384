-- The report is one of the zones.
use Rattle.storage_report.proofs.Readings.{are_of}
use Rattle.storage_report.proofs.reading.read.Goals as goal

pub returns-clause-zones : goal.returns-clause-zones
returns-clause-zones c =
    are_of c.args.storage.now c.args.symbols.now c.args.image.now c.in_ok-read.read c.in_ok-read.ensures
