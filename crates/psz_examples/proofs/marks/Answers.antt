-- What bytes and parameters show: the rows compute. By `Marked`.
use Rattle.psz_examples.proofs.Marked.{marks, too_long, just_fits, step, all_shown, one_dump, one_small, one_long}
use Rattle.psz_examples.proofs.Marked.{first_missing, no_dump, wide_machine, x86_machine, no_machine, kib, five_kib}
use Rattle.psz_examples.proofs.Marked.{ten_kib, odd_kib, no_kib, rest_before, odd_dump}
use Rattle.psz_examples.proofs.Marked.{big_marks, little_order, big_order, first_order, other_no_mark, mixed_magic, no_mark}
use Rattle.psz_examples.proofs.marks.Goals as goal

pub returns-clause-marks : goal.returns-clause-marks
returns-clause-marks c = marks

pub returns-clause-too_long : goal.returns-clause-too_long
returns-clause-too_long c = too_long

pub returns-clause-just_fits : goal.returns-clause-just_fits
returns-clause-just_fits c = just_fits

pub returns-clause-step : goal.returns-clause-step
returns-clause-step c = step

pub returns-clause-all_shown : goal.returns-clause-all_shown
returns-clause-all_shown c = all_shown

pub returns-clause-one_dump : goal.returns-clause-one_dump
returns-clause-one_dump c = one_dump

pub returns-clause-one_small : goal.returns-clause-one_small
returns-clause-one_small c = one_small

pub returns-clause-one_long : goal.returns-clause-one_long
returns-clause-one_long c = one_long

pub returns-clause-first_missing : goal.returns-clause-first_missing
returns-clause-first_missing c = first_missing

pub returns-clause-no_dump : goal.returns-clause-no_dump
returns-clause-no_dump c = no_dump

pub returns-clause-wide_machine : goal.returns-clause-wide_machine
returns-clause-wide_machine c = wide_machine

pub returns-clause-x86_machine : goal.returns-clause-x86_machine
returns-clause-x86_machine c = x86_machine

pub returns-clause-no_machine : goal.returns-clause-no_machine
returns-clause-no_machine c = no_machine

pub returns-clause-kib : goal.returns-clause-kib
returns-clause-kib c = kib

pub returns-clause-five_kib : goal.returns-clause-five_kib
returns-clause-five_kib c = five_kib

pub returns-clause-ten_kib : goal.returns-clause-ten_kib
returns-clause-ten_kib c = ten_kib

pub returns-clause-odd_kib : goal.returns-clause-odd_kib
returns-clause-odd_kib c = odd_kib

pub returns-clause-no_kib : goal.returns-clause-no_kib
returns-clause-no_kib c = no_kib

pub returns-clause-big_marks : goal.returns-clause-big_marks
returns-clause-big_marks c = big_marks

pub returns-clause-little_order : goal.returns-clause-little_order
returns-clause-little_order c = little_order

pub returns-clause-big_order : goal.returns-clause-big_order
returns-clause-big_order c = big_order

pub returns-clause-first_order : goal.returns-clause-first_order
returns-clause-first_order c = first_order

pub returns-clause-other_no_mark : goal.returns-clause-other_no_mark
returns-clause-other_no_mark c = other_no_mark

pub returns-clause-mixed_magic : goal.returns-clause-mixed_magic
returns-clause-mixed_magic c = mixed_magic

pub returns-clause-no_mark : goal.returns-clause-no_mark
returns-clause-no_mark c = no_mark

pub returns-clause-rest_before : goal.returns-clause-rest_before
returns-clause-rest_before c = rest_before

pub returns-clause-odd_dump : goal.returns-clause-odd_dump
returns-clause-odd_dump c = odd_dump
