-- None of the first `i` zones gives a log of this kind. For the loop of `first_log`.
use Rattle.std.proofs.Common.{◌≡◌, [], take}
use Rattle.zone_spec.specs.Records.{logs_of}
use Rattle.prz_read.specs.Saving.{saved}
use Rattle.pstore_records.proofs.zones.first_log.Given as goal

abbrev pub invariant-loop-i : goal.invariant-loop-i
invariant-loop-i l = logs_of l.kind (take l.i (saved l.logs)) ≡ []
