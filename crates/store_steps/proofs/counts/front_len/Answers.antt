-- A dump's body is cut to the room after its line; other calls have none. For `front_len`.
use Rattle.std.proofs.Common.{refl, arith, ◌-◌, length, length-take}
use Rattle.store_steps.specs.Calls.{front_of}
use Rattle.store_steps.proofs.counts.front_len.Goals as goal

pub returns-in-Append-clause-value : goal.returns-in-Append-clause-value
unfolding front_of
returns-in-Append-clause-value c = rw c.in-Append.is refl

pub returns-in-Erase-clause-value : goal.returns-in-Erase-clause-value
unfolding front_of
returns-in-Erase-clause-value c = rw c.in-Erase.is refl

pub returns-in-Dump-clause-value : goal.returns-in-Dump-clause-value
unfolding front_of
returns-in-Dump-clause-value c = rw c.in-Dump.is
    (omega (arith, length-take (c.args.cap - length c.args.line.now) c.args.payload.now, c.min.ensures))
