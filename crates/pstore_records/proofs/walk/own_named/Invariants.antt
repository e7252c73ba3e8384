-- None of the first `i` zones makes a record of this name. For the loop of `own_named`.
use Rattle.std.proofs.Common.{take, None}
use Rattle.prz_read.specs.Saving.{saved}
use Rattle.pstore_records.specs.Walks.{IsNamed, own_records}
use Rattle.pstore_records.proofs.walk.own_named.Given as goal

abbrev pub invariant-loop-i : goal.invariant-loop-i
invariant-loop-i l = IsNamed (saved l.logs) None l.name (own_records l.kind (take l.i (saved l.logs)))
