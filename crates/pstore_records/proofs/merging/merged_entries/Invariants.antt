-- The entries are those of the first `i` zones, merged. For the loop of `merged_entries`.
use Rattle.std.proofs.Common.{◌≡◌, [], take, map}
use Rattle.std.specs.Prelude.{fold}
use Rattle.zone_spec.specs.declared.Kind.TheVariants.{Ftrace}
use Rattle.zone_spec.specs.Ftrace.{entries, merge}
use Rattle.zone_spec.specs.Records.{logs_of}
use Rattle.ftrace_zone.specs.EntryBytes.{entry_bytes}
use Rattle.prz_read.specs.Saving.{saved}
use Rattle.pstore_records.proofs.merging.merged_entries.Given as goal

abbrev pub invariant-loop-i : goal.invariant-loop-i
invariant-loop-i l = map entry_bytes l.all ≡ fold (λ all log. merge all (entries log)) []
    (logs_of Ftrace (take l.i (saved l.logs)))
