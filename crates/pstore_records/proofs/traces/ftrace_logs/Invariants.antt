-- The logs are those of the first `i` zones. For the loop of `ftrace_logs`.
use Rattle.std.proofs.Common.{◌≡◌, ℕ, List, take, map}
use Rattle.std.specs.Borrow.{Bor}
use Rattle.zone_spec.specs.declared.Kind.TheVariants.{Ftrace}
use Rattle.zone_spec.specs.Records.{logs_of}
use Rattle.prz_read.specs.Saving.{saved}
use Rattle.pstore_records.proofs.traces.ftrace_logs.Given as goal

abbrev pub invariant-loop-i : goal.invariant-loop-i
invariant-loop-i l = map (λ (log : Bor (List ℕ)). log.now) l.all.items ≡ logs_of Ftrace (take l.i (saved l.logs))
