-- The logs of rings: the rows compute. By `Worked`.
use Rattle.psz_examples.proofs.Worked.{wrapped, not_yet, full, beyond, not_yet_state, start_overtop, console, ftrace}
use Rattle.psz_examples.proofs.Worked.{other_kind}
use Rattle.psz_examples.proofs.Worked.{big_wrapped, big_ring_state, big_beyond, big_console}
use Rattle.psz_examples.proofs.rings.Goals as goal

pub returns-clause-wrapped : goal.returns-clause-wrapped
returns-clause-wrapped c = wrapped

pub returns-clause-not_yet : goal.returns-clause-not_yet
returns-clause-not_yet c = not_yet

pub returns-clause-full : goal.returns-clause-full
returns-clause-full c = full

pub returns-clause-beyond : goal.returns-clause-beyond
returns-clause-beyond c = beyond

pub returns-clause-not_yet_state : goal.returns-clause-not_yet_state
returns-clause-not_yet_state c = not_yet_state

pub returns-clause-start_overtop : goal.returns-clause-start_overtop
returns-clause-start_overtop c = start_overtop

pub returns-clause-console : goal.returns-clause-console
returns-clause-console c = console

pub returns-clause-ftrace : goal.returns-clause-ftrace
returns-clause-ftrace c = ftrace

pub returns-clause-other_kind : goal.returns-clause-other_kind
returns-clause-other_kind c = other_kind

pub returns-clause-big_wrapped : goal.returns-clause-big_wrapped
returns-clause-big_wrapped c = big_wrapped

pub returns-clause-big_ring_state : goal.returns-clause-big_ring_state
returns-clause-big_ring_state c = big_ring_state

pub returns-clause-big_beyond : goal.returns-clause-big_beyond
returns-clause-big_beyond c = big_beyond

pub returns-clause-big_console : goal.returns-clause-big_console
returns-clause-big_console c = big_console
