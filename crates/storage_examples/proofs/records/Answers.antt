-- The rows compute. By `Worked`.
use Rattle.storage_examples.proofs.Worked.{held, all_held, time, no_time, early, erased, found}
use Rattle.storage_examples.proofs.Worked.{big_held, big_found, big_zone}
use Rattle.storage_examples.proofs.records.Goals as goal

pub returns-clause-held : goal.returns-clause-held
returns-clause-held c = held

pub returns-clause-all_held : goal.returns-clause-all_held
returns-clause-all_held c = all_held

pub returns-clause-time : goal.returns-clause-time
returns-clause-time c = time

pub returns-clause-no_time : goal.returns-clause-no_time
returns-clause-no_time c = no_time

pub returns-clause-early : goal.returns-clause-early
returns-clause-early c = early

pub returns-clause-erased : goal.returns-clause-erased
returns-clause-erased c = erased

pub returns-clause-found : goal.returns-clause-found
returns-clause-found c = found

pub returns-clause-big_held : goal.returns-clause-big_held
returns-clause-big_held c = big_held

pub returns-clause-big_found : goal.returns-clause-big_found
returns-clause-big_found c = big_found

pub returns-clause-big_zone : goal.returns-clause-big_zone
returns-clause-big_zone c = big_zone
