-- The entries are those of the first groups. For the loop of `entries`.
use Rattle.std.proofs.Common.{◌≡◌, drop, map}
use Rattle.zone_spec.specs.Ftrace.{groups}
use Rattle.ftrace_zone.specs.EntryBytes.{entry_bytes}
use Rattle.ftrace_zone.proofs.entries.Given as goal

abbrev pub invariant-loop-i : goal.invariant-loop-i
invariant-loop-i l = map entry_bytes l.found.items ≡ groups l.i (drop l.first l.log)
