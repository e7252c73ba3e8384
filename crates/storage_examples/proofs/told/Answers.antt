-- The rows compute. By `Worked`.
use Rattle.storage_examples.proofs.Worked.{sizes, cpus, tied, not_tied, oopses, fault, start}
use Rattle.storage_examples.proofs.Worked.{fault_lines, has_dump, no_panic}
use Rattle.storage_examples.proofs.Worked.{big_sizes, big_has_dump, other_order}
use Rattle.storage_examples.proofs.told.Goals as goal

pub returns-clause-sizes : goal.returns-clause-sizes
returns-clause-sizes c = sizes

pub returns-clause-cpus : goal.returns-clause-cpus
returns-clause-cpus c = cpus

pub returns-clause-tied : goal.returns-clause-tied
returns-clause-tied c = tied

pub returns-clause-not_tied : goal.returns-clause-not_tied
returns-clause-not_tied c = not_tied

pub returns-clause-oopses : goal.returns-clause-oopses
returns-clause-oopses c = oopses

pub returns-clause-fault : goal.returns-clause-fault
returns-clause-fault c = fault

pub returns-clause-start : goal.returns-clause-start
returns-clause-start c = start

pub returns-clause-fault_lines : goal.returns-clause-fault_lines
returns-clause-fault_lines c = fault_lines

pub returns-clause-has_dump : goal.returns-clause-has_dump
returns-clause-has_dump c = has_dump

pub returns-clause-no_panic : goal.returns-clause-no_panic
returns-clause-no_panic c = no_panic

pub returns-clause-big_sizes : goal.returns-clause-big_sizes
returns-clause-big_sizes c = big_sizes

pub returns-clause-big_has_dump : goal.returns-clause-big_has_dump
returns-clause-big_has_dump c = big_has_dump

pub returns-clause-other_order : goal.returns-clause-other_order
returns-clause-other_order c = other_order
