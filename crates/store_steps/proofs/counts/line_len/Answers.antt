-- A dump has its line; other calls have none. For `line_len`.
use Rattle.std.proofs.Common.{refl}
use Rattle.store_steps.specs.Calls.{line_of}
use Rattle.store_steps.proofs.counts.line_len.Goals as goal

pub returns-in-Append-clause-value : goal.returns-in-Append-clause-value
unfolding line_of
returns-in-Append-clause-value c = rw c.in-Append.is refl

pub returns-in-Erase-clause-value : goal.returns-in-Erase-clause-value
unfolding line_of
returns-in-Erase-clause-value c = rw c.in-Erase.is refl

pub returns-in-Dump-clause-value : goal.returns-in-Dump-clause-value
unfolding line_of
returns-in-Dump-clause-value c = rw c.in-Dump.is refl
