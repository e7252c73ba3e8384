-- Where the kernel fails, and where logs stand: the rows compute. By `Failing`.
use Rattle.psz_examples.proofs.Failing.{short_dump, empty_packed, packed, start_beyond, passed_over, others_listed}
use Rattle.psz_examples.proofs.Failing.{parts, packed_name, ring_name}
use Rattle.psz_examples.proofs.failures.Goals as goal

pub returns-clause-short_dump : goal.returns-clause-short_dump
returns-clause-short_dump c = short_dump

pub returns-clause-empty_packed : goal.returns-clause-empty_packed
returns-clause-empty_packed c = empty_packed

pub returns-clause-packed : goal.returns-clause-packed
returns-clause-packed c = packed

pub returns-clause-start_beyond : goal.returns-clause-start_beyond
returns-clause-start_beyond c = start_beyond

pub returns-clause-passed_over : goal.returns-clause-passed_over
returns-clause-passed_over c = passed_over

pub returns-clause-others_listed : goal.returns-clause-others_listed
returns-clause-others_listed c = others_listed

pub returns-clause-parts : goal.returns-clause-parts
returns-clause-parts c = parts

pub returns-clause-packed_name : goal.returns-clause-packed_name
returns-clause-packed_name c = packed_name

pub returns-clause-ring_name : goal.returns-clause-ring_name
returns-clause-ring_name c = ring_name
