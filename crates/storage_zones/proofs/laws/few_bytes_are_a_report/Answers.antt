-- By `FewBytes`. For `few_bytes_are_a_report`.
use Rattle.storage_zones.proofs.FewBytes.{same_readings, same_records, same_lines}
use Rattle.storage_zones.proofs.laws.few_bytes_are_a_report.Goals as goal

pub returns-clause-readings : goal.returns-clause-readings
returns-clause-readings c = same_readings

pub returns-clause-records : goal.returns-clause-records
returns-clause-records c = same_records

pub returns-clause-lines : goal.returns-clause-lines
returns-clause-lines c = same_lines
