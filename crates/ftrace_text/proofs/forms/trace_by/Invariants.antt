-- The entries are those of the logs so far, merged. For the loop of `trace_by`.
use Rattle.std.proofs.Common.{◌≡◌, ℕ, List, [], take, map}
use Rattle.std.specs.Prelude.{fold}
use Rattle.std.specs.Borrow.{Bor}
use Rattle.zone_spec.specs.Ftrace.{merge}
use Rattle.ftrace_zone.specs.EntryBytes.{entry_bytes}
use Rattle.ftrace_spec.specs.Forms.{long_entries}
use Rattle.ftrace_text.proofs.forms.trace_by.Given as goal

abbrev pub invariant-loop-log : goal.invariant-loop-log
invariant-loop-log l = map entry_bytes l.all
    ≡ fold (λ all log. merge all (long_entries l.order l.form log)) []
    (map (λ (log : Bor (List ℕ)). log.now) (take l.log-index l.logs))
