-- An append stores its last bytes that fit; other calls store none. For `last_len`.
use Rattle.std.proofs.Common.{refl, arith, ◌-◌, length, length-drop}
use Rattle.store_steps.specs.Calls.{last_of}
use Rattle.store_steps.proofs.counts.last_len.Goals as goal

pub returns-in-Append-clause-value : goal.returns-in-Append-clause-value
unfolding last_of
returns-in-Append-clause-value c = rw c.in-Append.is
    (omega (arith, length-drop (length c.args.payload.now - c.args.cap) c.args.payload.now, c.min.ensures))

pub returns-in-Erase-clause-value : goal.returns-in-Erase-clause-value
unfolding last_of
returns-in-Erase-clause-value c = rw c.in-Erase.is refl

pub returns-in-Dump-clause-value : goal.returns-in-Dump-clause-value
unfolding last_of
returns-in-Dump-clause-value c = rw c.in-Dump.is refl
