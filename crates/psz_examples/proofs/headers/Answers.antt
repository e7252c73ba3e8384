-- Headers of dumps, and states of zones: the rows compute. By `Worked`.
use Rattle.psz_examples.proofs.Worked.{wide_header, x86_header, erased, unwritten, overtop, no_dump, short}
use Rattle.psz_examples.proofs.Worked.{no_dump_empty, header_alone, filled, one_more}
use Rattle.psz_examples.proofs.Worked.{big_header, big_narrow_header, big_filled, big_one_more, big_erased, big_as_little, little_as_big}
use Rattle.psz_examples.proofs.headers.Goals as goal

pub returns-clause-wide : goal.returns-clause-wide
returns-clause-wide c = wide_header

pub returns-clause-x86 : goal.returns-clause-x86
returns-clause-x86 c = x86_header

pub returns-clause-erased : goal.returns-clause-erased
returns-clause-erased c = erased

pub returns-clause-unwritten : goal.returns-clause-unwritten
returns-clause-unwritten c = unwritten

pub returns-clause-overtop : goal.returns-clause-overtop
returns-clause-overtop c = overtop

pub returns-clause-no_dump : goal.returns-clause-no_dump
returns-clause-no_dump c = no_dump

pub returns-clause-short : goal.returns-clause-short
returns-clause-short c = short

pub returns-clause-no_dump_empty : goal.returns-clause-no_dump_empty
returns-clause-no_dump_empty c = no_dump_empty

pub returns-clause-header_alone : goal.returns-clause-header_alone
returns-clause-header_alone c = header_alone

pub returns-clause-filled : goal.returns-clause-filled
returns-clause-filled c = filled

pub returns-clause-one_more : goal.returns-clause-one_more
returns-clause-one_more c = one_more

pub returns-clause-big_header : goal.returns-clause-big_header
returns-clause-big_header c = big_header

pub returns-clause-big_narrow_header : goal.returns-clause-big_narrow_header
returns-clause-big_narrow_header c = big_narrow_header

pub returns-clause-big_filled : goal.returns-clause-big_filled
returns-clause-big_filled c = big_filled

pub returns-clause-big_one_more : goal.returns-clause-big_one_more
returns-clause-big_one_more c = big_one_more

pub returns-clause-big_erased : goal.returns-clause-big_erased
returns-clause-big_erased c = big_erased

pub returns-clause-big_as_little : goal.returns-clause-big_as_little
returns-clause-big_as_little c = big_as_little

pub returns-clause-little_as_big : goal.returns-clause-little_as_big
returns-clause-little_as_big c = little_as_big
