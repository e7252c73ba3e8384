-- The bytes are those of the entries so far. For the loop of `to_bytes`.
use Rattle.std.proofs.Common.{◌≡◌, take, flat_map}
use Rattle.ftrace_zone.specs.EntryBytes.{entry_bytes}
use Rattle.ftrace_zone.proofs.to_bytes.Given as goal

abbrev pub invariant-loop-entry : goal.invariant-loop-entry
invariant-loop-entry l = l.bytes.items ≡ flat_map entry_bytes (take l.entry-index l.entries)
