-- How storages are divided: the rows compute. By `Worked`.
use Rattle.psz_examples.proofs.Worked.{dumps_alone, all_kinds, odd_place, rest_unused, no_room, no_dump_zone, uneven}
use Rattle.psz_examples.proofs.Worked.{more_than_cpus, left_over, most, total_small, no_size, total_uneven}
use Rattle.psz_examples.proofs.Worked.{ftrace_small, headers_alone}
use Rattle.psz_examples.proofs.layouts.Goals as goal

pub returns-clause-dumps_alone : goal.returns-clause-dumps_alone
returns-clause-dumps_alone c = dumps_alone

pub returns-clause-all_kinds : goal.returns-clause-all_kinds
returns-clause-all_kinds c = all_kinds

pub returns-clause-odd_place : goal.returns-clause-odd_place
returns-clause-odd_place c = odd_place

pub returns-clause-rest_unused : goal.returns-clause-rest_unused
returns-clause-rest_unused c = rest_unused

pub returns-clause-no_room : goal.returns-clause-no_room
returns-clause-no_room c = no_room

pub returns-clause-no_dump_zone : goal.returns-clause-no_dump_zone
returns-clause-no_dump_zone c = no_dump_zone

pub returns-clause-uneven : goal.returns-clause-uneven
returns-clause-uneven c = uneven

pub returns-clause-more_than_cpus : goal.returns-clause-more_than_cpus
returns-clause-more_than_cpus c = more_than_cpus

pub returns-clause-left_over : goal.returns-clause-left_over
returns-clause-left_over c = left_over

pub returns-clause-most : goal.returns-clause-most
returns-clause-most c = most

pub returns-clause-total_small : goal.returns-clause-total_small
returns-clause-total_small c = total_small

pub returns-clause-no_size : goal.returns-clause-no_size
returns-clause-no_size c = no_size

pub returns-clause-total_uneven : goal.returns-clause-total_uneven
returns-clause-total_uneven c = total_uneven

pub returns-clause-ftrace_small : goal.returns-clause-ftrace_small
returns-clause-ftrace_small c = ftrace_small

pub returns-clause-headers_alone : goal.returns-clause-headers_alone
returns-clause-headers_alone c = headers_alone
