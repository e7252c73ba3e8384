-- A name is listed exactly when a record is found by it. By `ListedRecords`.
use Rattle.machine_laws.proofs.ListedRecords.{listed_is_found as law}
use Rattle.machine_laws.proofs.listed_is_found.Goals as goal

pub returns : goal.returns
returns c = law
